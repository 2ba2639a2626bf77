-- `compare_text::inner::put_two` meets its contract: three texts, one after the other. Assumes nothing.
use Prim.Native.Nat.{◌+◌}
use native.Mathlib.Omega.{arith}
use lib.ListN.{length}
use Rattle.compare_report.specs.Report.{two_numbers}
use Rattle.compare_report.proofs.Puts.{joined, ended}
use Rattle.compare_text.proofs.inner.put_two.Goals as goal

pub returns : goal.returns
unfolding two_numbers
returns c = ended _
    (joined (length c.args.word.now + 41)
    c.put_numbered-second.ensures c.put_numbered-end.ensures (omega arith)) c.put_bytes.ensures (omega arith)
