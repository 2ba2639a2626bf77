-- `earth_rotation::inner::turning_rate` meets its contract: its constants compute to the document's decimals. Assumes nothing.
use mathlib.Core.Path.{refl}
use lib.Ieee.{of_bits, of_int, round}
use Rattle.earth_rotation.specs.Rotation.{rate}
use Rattle.earth_rotation.proofs.inner.turning_rate.Goals as goal

pub returns : goal.returns
unfolding rate of_bits of_int round
returns c = refl
