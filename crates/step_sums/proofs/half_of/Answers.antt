-- `step_sums::half_of` meets its contract. Assumes nothing.
use lib.Ieee.{of_bits, round}
use Rattle.step_sums.specs.Slopes.{half}
use Rattle.step_sums.proofs.half_of.Goals as goal

pub returns : goal.returns
unfolding half of_bits round
returns c = rw c.seconds.ensures
