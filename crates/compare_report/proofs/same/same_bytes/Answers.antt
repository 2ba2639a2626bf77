-- `compare_report::same::same_bytes` meets its contract: equality of slices is that of the definition. Assumes nothing.
use mathlib.Core.Path.{sym, ◌∙◌}
use Rattle.compare_report.proofs.Alike.{same_pointwise}
use Rattle.compare_report.proofs.same.same_bytes.Goals as goal

pub returns : goal.returns
returns c = c.eq.ensures ∙ sym (same_pointwise _ _)
