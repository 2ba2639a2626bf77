-- `compare_text::inner::put_without` meets its contract. Assumes nothing.
use Rattle.compare_report.specs.Report.{text_of}
use Rattle.compare_report.proofs.Puts.{none}
use Rattle.compare_text.proofs.inner.put_without.Goals as goal

pub returns-in-None : goal.returns-in-None
unfolding text_of
returns-in-None c = rw c.in-None.is (none _ _ 300)
