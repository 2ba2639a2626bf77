-- `text_write::inner::put_bytes` meets its contract: after i turns the first i bytes of the word are written. Assumes nothing.
use native.Mathlib.Omega.{arith}
use lib.ListN.{length-set}
use Rattle.text_write.proofs.Writing.{next_byte}
use Rattle.text_write.proofs.inner.put_bytes.Goals as goal

pub loop-i-preserved : goal.loop-i-preserved
loop-i-preserved c = (simp length-set c.loop-i.invariant.0, next_byte _ _ _ _ _ c.loop-i.invariant.1 (omega arith) (omega arith))
