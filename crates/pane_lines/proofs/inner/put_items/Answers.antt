-- `pane_lines::inner::put_items` meets its contract. Assumes nothing.
use native.Mathlib.Omega.{arith}
use Rattle.pane_lines.specs.Answers.{empty_word, unreadable_word}
use Rattle.line_form.proofs.Spelling.{worded}
use Rattle.pane_lines.proofs.inner.put_items.Goals as goal

pub returns-in-Cleared : goal.returns-in-Cleared
returns-in-Cleared g c = rw c.in-Cleared.is (worded empty_word (omega arith) c.put_bytes.ensures)

pub returns-in-Unreadable : goal.returns-in-Unreadable
returns-in-Unreadable g c = rw c.in-Unreadable.is (worded unreadable_word (omega arith) c.put_bytes-in-Unreadable.ensures)
