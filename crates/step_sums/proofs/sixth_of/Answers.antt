-- `step_sums::sixth_of` meets its contract. Assumes nothing.
use lib.Ieee.{of_bits, of_int, round}
use Rattle.step_sums.specs.Slopes.{sixth}
use Rattle.step_sums.proofs.sixth_of.Goals as goal

pub returns : goal.returns
unfolding sixth of_bits of_int round
returns c = rw c.seconds.ensures
