-- `compare_text::inner::put_turn` meets its contract. Assumes nothing.
use borrow.Author.Rules.{rules}
use Rattle.compare_text.proofs.inner.put_turn.Goals as goal

pub put_with-requires : goal.put_with-requires
put_with-requires c = search rules

pub put_without-requires : goal.put_without-requires
put_without-requires c = search rules

pub returns-in-Some : goal.returns-in-Some
returns-in-Some c = rw c.in-Some.is c.put_with.ensures

pub returns-in-None : goal.returns-in-None
returns-in-None c = rw c.in-None.is c.put_without.ensures
