-- `pane_motion::rate_of` meets its contract. Assumes nothing.
use mathlib.Core.Path.{refl}
use lib.Ieee.{of_bits, of_int}
use Rattle.pane_motion.proofs.rate_of.Goals as goal

pub returns : goal.returns
unfolding of_bits of_int
returns c = refl
