-- `listing_lines::inner::state_line` meets its contract. Assumes nothing.
use borrow.Author.Tests.{lt-ltb, le-ltb}
use Rattle.listing_lines.specs.Whole.{state_line_at}
use Rattle.listing_lines.proofs.inner.state_line.Goals as goal

pub returns-then-at-block : goal.returns-then-at-block
unfolding state_line_at
returns-then-at-block c = rw (c.from_byte.ensures, lt-ltb _ _ c.if-at-block.true)

pub returns : goal.returns
unfolding state_line_at
returns c = rw (le-ltb _ _ c.if-at-block.false)
