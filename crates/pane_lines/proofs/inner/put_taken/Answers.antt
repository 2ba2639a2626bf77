-- `pane_lines::inner::put_taken` meets its contract. Assumes nothing.
use native.Mathlib.Omega.{arith}
use Rattle.pane_lines.specs.Answers.{ok_word, unchanged_word}
use Rattle.line_form.proofs.Spelling.{worded}
use Rattle.pane_lines.proofs.inner.put_taken.Goals as goal

pub returns-in-Taken : goal.returns-in-Taken
returns-in-Taken g c = rw c.in-Taken.is (worded ok_word (omega arith) c.put_bytes.ensures)

pub returns-in-Unchanged : goal.returns-in-Unchanged
returns-in-Unchanged g c = rw c.in-Unchanged.is (worded unchanged_word (omega arith) c.put_bytes-in-Unchanged.ensures)
