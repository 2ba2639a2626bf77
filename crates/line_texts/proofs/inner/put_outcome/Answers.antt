-- `line_texts::inner::put_outcome` meets its contract. Assumes nothing.
use native.Mathlib.Omega.{arith}
use Rattle.line_texts.specs.Text.{arrived_word, going_word}
use Rattle.line_texts.proofs.Written.{word_in}
use Rattle.line_texts.proofs.inner.put_outcome.Goals as goal

pub returns-in-Arrived : goal.returns-in-Arrived
returns-in-Arrived g c = rw c.in-Arrived.is (word_in arrived_word 29 (omega arith) c.put_bytes.ensures)

pub returns-in-Going : goal.returns-in-Going
returns-in-Going g c = rw c.in-Going.is (word_in going_word 29 (omega arith) c.put_bytes-in-Going.ensures)
