-- `step_sums::seconds` meets its contract. Assumes nothing.
use mathlib.Core.Path.{refl}
use lib.Ieee.{of_bits, of_int, round}
use Rattle.step_sums.specs.Slopes.{step_h}
use Rattle.step_sums.proofs.seconds.Goals as goal

pub returns : goal.returns
unfolding step_h of_bits of_int round
returns c = refl
