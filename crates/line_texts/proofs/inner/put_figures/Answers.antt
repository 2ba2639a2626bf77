-- `line_texts::inner::put_figures` meets its contract. Assumes nothing.
use mathlib.Core.List.{[], ◌∷◌}
use native.Mathlib.Omega.{arith}
use Rattle.line_form.specs.Spelled.{whole, real}
use Rattle.line_texts.specs.Text.{ellipse_word, hyperbola_word}
use Rattle.line_form.proofs.Spelling.{after_word, then_puts}
use Rattle.line_texts.proofs.inner.put_figures.Goals as goal

pub returns-in-Ellipse : goal.returns-in-Ellipse
returns-in-Ellipse c = rw c.in-Ellipse.is (after_word ellipse_word (whole _ ∷ real _ ∷ real _ ∷ real _ ∷ real _ ∷ real _ ∷ []) (omega arith) c.put_bytes-at.ensures
    (then_puts (whole _ ∷ []) (real _ ∷ real _ ∷ real _ ∷ real _ ∷ real _ ∷ []) c.put_numbers-at.ensures c.put_floats.ensures))

pub returns-in-Hyperbola : goal.returns-in-Hyperbola
returns-in-Hyperbola c = rw c.in-Hyperbola.is (after_word hyperbola_word (whole _ ∷ real _ ∷ real _ ∷ real _ ∷ real _ ∷ real _ ∷ []) (omega arith) c.put_bytes-at-in-Hyperbola.ensures
    (then_puts (whole _ ∷ []) (real _ ∷ real _ ∷ real _ ∷ real _ ∷ real _ ∷ []) c.put_numbers-at-in-Hyperbola.ensures c.put_floats-in-Hyperbola.ensures))
