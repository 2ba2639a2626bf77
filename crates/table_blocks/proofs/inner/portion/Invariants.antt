-- `table_blocks::inner::portion` meets its contract. Assumes nothing.
use Prim.Native.Nat.{◌-◌}
use mathlib.Core.Path.{◌≡◌}
use lib.ListN.{length}
use Rattle.table_blocks.proofs.Reading.{Made}
use Rattle.table_blocks.proofs.inner.portion.Given as goal

abbrev pub invariant-loop-i : goal.invariant-loop-i
invariant-loop-i l = (length l.out ≡ length l.initial.out) × Made l.block l.from l.initial.s l.initial.out l.s l.i l.at l.out

abbrev pub decreases-loop-i : goal.decreases-loop-i
decreases-loop-i l = length l.block - l.i
