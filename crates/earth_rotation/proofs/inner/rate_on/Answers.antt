-- `earth_rotation::inner::rate_on` meets its contract: the day is that of UT. Assumes nothing.
use Rattle.earth_rotation.specs.Rotation.{rotation}
use Rattle.earth_rotation.proofs.inner.rate_on.Goals as goal

pub returns : goal.returns
unfolding rotation
returns c = rw c.turning_rate.ensures
