-- The opening stage stands.
use native.Mathlib.Omega.{arith}
use Rattle.table_blocks.proofs.Reading.{going_stands}
use Rattle.table.proofs.print_rows.Goals as goal

pub loop-init : goal.loop-init
loop-init g c = (c.requires, rw c.opening-s.ensures (going_stands _ _ 1 (omega arith)))
