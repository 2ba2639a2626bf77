-- `base_bytes::inner::u16_at` meets its contract: two bytes, each below 256. Assumes nothing.
use mathlib.Core.Path.{refl}
use Rattle.base_bytes.specs.Bytes.{u16_at}
use Rattle.base_bytes.proofs.inner.u16_at.Goals as goal

pub returns : goal.returns
unfolding u16_at
returns c = refl
