-- `base_bytes::inner::u64_at` meets its contract, by those of its two halves. Assumes nothing.
use native.Mathlib.Omega.{arith}
use Rattle.base_bytes.specs.Bytes.{u64_at}
use Rattle.base_bytes.proofs.inner.u64_at.Goals as goal

pub returns : goal.returns
unfolding u64_at
returns c = omega arith
