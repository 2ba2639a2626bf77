-- `earth_precession::inner::centuries_at` meets its contract: the milliseconds are below 2^53, so the cast is exact. Assumes nothing.
use mathlib.Core.Path.{refl}
use lib.Ieee.{of_bits, of_int, round}
use Rattle.earth_precession.specs.Precession.{centuries}
use Rattle.earth_precession.proofs.inner.centuries_at.Goals as goal

pub returns : goal.returns
unfolding centuries of_bits of_int round
returns c = refl
