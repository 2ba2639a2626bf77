-- `compare_blocks::next_block` meets its contract. Assumes nothing.
use borrow.Author.Tests.{lt-ltb, le-ltb}
use Rattle.compare_blocks.specs.Sides.{onward}
use Rattle.compare_blocks.proofs.next_block.Goals as goal

pub returns-then-n-gt0 : goal.returns-then-n-gt0
unfolding onward
returns-then-n-gt0 c = rw (lt-ltb 0 _ c.if-n-gt0.true)

pub returns : goal.returns
unfolding onward
returns c = rw (le-ltb 0 _ c.if-n-gt0.false, c.last_row.ensures)
