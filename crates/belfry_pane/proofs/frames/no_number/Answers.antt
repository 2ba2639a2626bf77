-- `belfry_pane::frames::no_number` meets its contract. Assumes nothing.
use mathlib.Core.Path.{refl}
use lib.Ieee.{nan_bits, of_bits, sub}
use Rattle.belfry_pane.proofs.frames.no_number.Goals as goal

pub float_from_bits-top : goal.float_from_bits-top
unfolding nan_bits
float_from_bits-top c = tt

pub returns : goal.returns
unfolding of_bits sub
returns c = refl
