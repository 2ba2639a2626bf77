-- `compare_text::inner::put_component` meets its contract. Assumes nothing.
use Rattle.compare_report.proofs.Puts.{bits_same, bits_differ}
use Rattle.compare_text.proofs.inner.put_component.Goals as goal

pub returns-then-a-b : goal.returns-then-a-b
returns-then-a-b c = bits_same _ _ _ _ _ _ c.if-a-b.true

pub returns : goal.returns
returns c = bits_differ _ _ _ _ _ _ _ _ c.if-a-b.false (rw c.steps_between.ensures at c.put_diff.ensures)
