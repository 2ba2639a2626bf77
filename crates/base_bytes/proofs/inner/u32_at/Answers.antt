-- `base_bytes::inner::u32_at` meets its contract, by those of its two halves. Assumes nothing.
use native.Mathlib.Omega.{arith}
use Rattle.base_bytes.specs.Bytes.{u32_at}
use Rattle.base_bytes.proofs.inner.u32_at.Goals as goal

pub returns : goal.returns
unfolding u32_at
returns c = omega arith
