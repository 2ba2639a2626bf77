-- `repair_write::bytes::copy` meets its contract: after k turns the first k bytes are copied. Assumes nothing.
use mathlib.Core.Path.{◌≡◌}
use lib.ListN.{length, drop}
use lib.Seq.{paste}
use Rattle.repair_write.proofs.bytes.copy.Given as goal

abbrev pub invariant-loop-k : goal.invariant-loop-k
invariant-loop-k l = record { size : length l.out ≡ length l.initial.out; copied : l.out ≡ paste l.initial.out l.at (drop l.from l.input) l.k }
