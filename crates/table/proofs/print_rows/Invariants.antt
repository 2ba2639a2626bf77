-- The stage stands after each block.
use Rattle.std.specs.Prelude.{◌≤◌, length}
use Rattle.table_blocks.specs.Steps.{Stands}
use Rattle.table.proofs.print_rows.Given as goal

abbrev pub invariant-loop : goal.invariant-loop
invariant-loop g l = (157 ≤ length l.out) × Stands l.s
