-- `compare_text::inner::put_diff` meets its contract: three texts, one after the other. Assumes nothing.
use native.Mathlib.Omega.{arith}
use Rattle.compare_report.specs.Report.{diff_line}
use Rattle.compare_report.proofs.Puts.{joined, ended}
use Rattle.compare_text.proofs.inner.put_diff.Goals as goal

pub returns : goal.returns
unfolding diff_line
returns c = ended 50 (joined 49 c.put_numbered-count.ensures c.put_steps-end.ensures (omega arith)) c.put_bytes.ensures (omega arith)
