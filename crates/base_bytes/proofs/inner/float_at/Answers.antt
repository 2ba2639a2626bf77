-- `base_bytes::inner::float_at` meets its contract: a finite float's pattern is no NaN's. Assumes nothing.
use Rattle.base_bytes.proofs.FiniteBits.{finite_no_nan}
use Rattle.base_bytes.proofs.inner.float_at.Goals as goal

pub float_from_bits-result : goal.float_from_bits-result
float_from_bits-result c = rw c.u64_at.ensures (finite_no_nan _ c.requires.at_value)
