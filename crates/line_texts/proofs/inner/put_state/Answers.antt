-- `line_texts::inner::put_state` meets its contract. Assumes nothing.
use mathlib.Core.List.{[], ◌∷◌}
use Rattle.line_form.specs.Spelled.{whole, real}
use Rattle.line_texts.specs.Text.{coordinate_items}
use Rattle.line_form.proofs.Spelling.{then_puts}
use Rattle.line_texts.proofs.inner.put_state.Goals as goal

pub returns : goal.returns
returns c = then_puts (whole _ ∷ whole _ ∷ []) _ c.put_numbers-at.ensures
    (then_puts (coordinate_items c.args.s) (real _ ∷ real _ ∷ real _ ∷ []) c.put_coordinates-at.ensures c.put_floats.ensures)
