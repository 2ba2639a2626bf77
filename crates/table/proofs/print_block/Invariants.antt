-- Each portion begins further on in the block, and the stage that it leaves stands.
use Rattle.std.specs.Prelude.{◌≡◌, ◌≤◌, ◌-◌, length}
use Rattle.table_blocks.specs.Steps.{Stands}
use Rattle.table.proofs.print_block.Given as goal

abbrev pub invariant-loop-i : goal.invariant-loop-i
invariant-loop-i g l = (length l.out ≡ length l.initial.out) × (157 ≤ length l.out) × Stands l.s

abbrev pub decreases-loop-i : goal.decreases-loop-i
decreases-loop-i g l = length l.block - l.i
