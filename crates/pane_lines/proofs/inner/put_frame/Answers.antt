-- `pane_lines::inner::put_frame` meets its contract. Assumes nothing.
use mathlib.Core.List.{[], ◌∷◌}
use native.Mathlib.Omega.{arith}
use Rattle.line_form.specs.Spelled.{real, whole}
use Rattle.pane_lines.specs.Answers.{current_word, late_word, empty_word}
use Rattle.line_form.proofs.Spelling.{worded, after_word}
use Rattle.pane_lines.proofs.inner.put_frame.Goals as goal

pub returns-in-Current : goal.returns-in-Current
returns-in-Current g c = rw c.in-Current.is (after_word current_word (real _ ∷ real _ ∷ real _ ∷ []) (omega arith) c.put_bytes-at.ensures c.put_floats.ensures)

pub returns-in-Late : goal.returns-in-Late
returns-in-Late g c = rw c.in-Late.is (after_word late_word (whole _ ∷ []) (omega arith) c.put_bytes-at-in-Late.ensures c.put_numbers.ensures)

pub returns-in-Empty : goal.returns-in-Empty
returns-in-Empty g c = rw c.in-Empty.is (worded empty_word (omega arith) c.put_bytes.ensures)
