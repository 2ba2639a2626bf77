-- `compare_blocks::go_on` meets its contract. Assumes nothing.
use borrow.Author.Rules.{rules}
use Rattle.compare_blocks.proofs.go_on.Goals as goal

pub next_block-requires : goal.next_block-requires
next_block-requires c = search rules

pub returns-then-wanted : goal.returns-then-wanted
returns-then-wanted c = rw c.if-wanted.true c.next_block.ensures

pub returns : goal.returns
returns c = search rules
