-- `compare_text::inner::put_rows` meets its contract, by the order of the moments. Assumes nothing.
use borrow.Author.Tests.{lt-ltb, le-ltb}
use borrow.Author.Rules.{rules}
use Rattle.compare_text.proofs.inner.put_rows.Goals as goal

pub put_only-requires : goal.put_only-requires
put_only-requires c = search rules

pub returns-then-r-s : goal.returns-then-r-s
returns-then-r-s c = rw (lt-ltb _ _ c.if-r-s.true) c.put_only.ensures

pub put_only-requires-then-s-r : goal.put_only-requires-then-s-r
put_only-requires-then-s-r c = search rules

pub returns-then-s-r : goal.returns-then-s-r
returns-then-s-r c = rw (le-ltb _ _ c.if-r-s.false, lt-ltb _ _ c.if-s-r.true) c.put_only-then-s-r.ensures

pub put_one-requires : goal.put_one-requires
put_one-requires c = search rules

pub returns : goal.returns
returns c = rw (le-ltb _ _ c.if-r-s.false, le-ltb _ _ c.if-s-r.false) c.put_one.ensures
