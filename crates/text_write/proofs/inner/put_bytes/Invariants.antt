-- `text_write::inner::put_bytes` meets its contract: after i turns the first i bytes of the word are written. Assumes nothing.
use Prim.Native.Nat.{◌+◌}
use mathlib.Core.Path.{◌≡◌}
use lib.ListN.{length, take}
use Rattle.text_write.specs.Written.{Wrote}
use Rattle.text_write.proofs.inner.put_bytes.Given as goal

abbrev pub invariant-loop-i : goal.invariant-loop-i
invariant-loop-i l = (length l.out ≡ length l.initial.out) × Wrote l.initial.out l.at (take l.i l.word) l.out (l.at + l.i)
