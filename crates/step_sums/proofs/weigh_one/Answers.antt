-- `step_sums::weigh_one` meets its contract. Assumes nothing.
use mathlib.Core.Path.{refl}
use lib.Ieee.{of_bits, of_int, round}
use Rattle.step_sums.proofs.weigh_one.Goals as goal

pub returns : goal.returns
unfolding of_bits of_int round
returns c = refl
