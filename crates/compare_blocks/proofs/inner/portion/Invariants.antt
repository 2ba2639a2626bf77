-- `compare_blocks::inner::portion` meets its contract: at the loop's test the bytes written and the report on the states to come make up the whole
-- (`Beside`). The measure is the number of states to come in both blocks. Assumes nothing.
use mathlib.Core.Path.{◌≡◌}
use lib.ListN.{length}
use Rattle.compare_blocks.proofs.Portions.{Beside, ahead}
use Rattle.compare_blocks.proofs.inner.portion.Given as goal

abbrev pub invariant-loop-at : goal.invariant-loop-at
invariant-loop-at l = (length l.out ≡ length l.initial.out) × Beside l.a l.b l.initial.first l.initial.second l.initial.out l.first l.second l.out l.at

abbrev pub decreases-loop-at : goal.decreases-loop-at
decreases-loop-at l = ahead l.a l.b l.first l.second
