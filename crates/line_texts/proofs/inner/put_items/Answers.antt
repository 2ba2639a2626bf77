-- `line_texts::inner::put_items` meets its contract. Assumes nothing.
use native.Mathlib.Omega.{arith}
use Rattle.line_texts.specs.Text.{unreadable_word}
use Rattle.line_form.proofs.Spelling.{worded}
use Rattle.line_texts.proofs.inner.put_items.Goals as goal

pub returns-in-Run : goal.returns-in-Run
returns-in-Run g c = rw c.in-Run.is c.put_run.ensures

pub returns-in-Unreadable : goal.returns-in-Unreadable
returns-in-Unreadable g c = rw c.in-Unreadable.is (worded unreadable_word (omega arith) c.put_bytes.ensures)
