-- `compare_text::inner::put_with` meets its contract. Assumes nothing.
use borrow.Author.Rules.{rules}
use Rattle.compare_text.proofs.inner.put_with.Goals as goal

pub put_rows-requires : goal.put_rows-requires
put_rows-requires c = search rules

pub put_only-requires : goal.put_only-requires
put_only-requires c = search rules

pub returns-in-Some : goal.returns-in-Some
returns-in-Some c = rw c.in-Some.is c.put_rows.ensures

pub returns-in-None : goal.returns-in-None
returns-in-None c = rw c.in-None.is c.put_only.ensures
