-- `line_texts::inner::put_launched` meets its contract. Assumes nothing.
use mathlib.Core.List.{[], ◌∷◌}
use native.Mathlib.Omega.{arith}
use Rattle.line_form.specs.Spelled.{whole, real}
use Rattle.line_form.proofs.Spelling.{widened, then_puts}
use Rattle.line_texts.proofs.inner.put_launched.Goals as goal

pub returns-in-Ok : goal.returns-in-Ok
returns-in-Ok g c = rw c.in-Ok.is
    (widened (then_puts (whole _ ∷ []) (real _ ∷ real _ ∷ real _ ∷ real _ ∷ real _ ∷ real _ ∷ []) c.put_numbers-at.ensures c.put_floats.ensures) (omega arith) (omega arith))
