-- `line_texts::inner::put_run` meets its contract. Assumes nothing.
use mathlib.Core.List.{[], ◌∷◌}
use native.Mathlib.Omega.{arith}
use Rattle.line_form.specs.Spelled.{whole}
use Rattle.line_texts.specs.Text.{coordinate_items, guess_items, outcome_items}
use Rattle.line_form.proofs.Spelling.{widened, then_puts}
use Rattle.line_texts.proofs.inner.put_run.Goals as goal

pub returns : goal.returns
returns g c = let r = c.args.answer in
    widened
    (then_puts (outcome_items g.R.Reason.told r.outcome) _ c.put_outcome-at.ensures
    (then_puts (whole _ ∷ whole _ ∷ []) _ c.put_numbers-at.ensures
    (then_puts (coordinate_items r.state) (guess_items r.guesses) c.put_coordinates-at.ensures c.put_guesses.ensures)))
    (omega arith)
    (omega arith)
