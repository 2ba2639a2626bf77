-- `earth_rotation::inner::row_times` meets its contract, operation by operation. Assumes nothing.
use mathlib.Core.Path.{refl}
use Rattle.earth_rotation.specs.Rotation.{row_times}
use Rattle.earth_rotation.proofs.inner.row_times.Goals as goal

pub returns : goal.returns
unfolding row_times
returns c = refl
