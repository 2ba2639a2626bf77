-- `compare_text::inner::put_end` meets its contract. Assumes nothing.
use native.Mathlib.Omega.{arith}
use Rattle.compare_report.specs.Report.{same_line}
use Rattle.compare_report.proofs.Puts.{ended}
use Rattle.compare_text.proofs.inner.put_end.Goals as goal

pub returns : goal.returns
unfolding same_line
returns c = rw c.if-reported.false (ended 300 c.put_numbered-end.ensures c.put_bytes.ensures (omega arith))
