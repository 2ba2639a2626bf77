-- `earth_rotation::inner::turn_table` meets its contract: its constants compute to 0 and 1. Assumes nothing.
use mathlib.Core.Path.{refl}
use lib.Ieee.{of_bits, of_int}
use Rattle.earth_rotation.specs.Rotation.{turn}
use Rattle.earth_rotation.proofs.inner.turn_table.Goals as goal

pub returns : goal.returns
unfolding turn of_bits of_int
returns c = refl
