-- `conic::figures_about` meets its contract. Assumes nothing.
use mathlib.Core.Path.{sym, ◌∙◌}
use Rattle.conic.specs.Conic.{figures_about}
use Rattle.conic.proofs.figures_about.Goals as goal

pub returns-then-state_is_finite : goal.returns-then-state_is_finite
unfolding figures_about
returns-then-state_is_finite c = rw (sym c.is_body.ensures ∙ c.if-is_body.true, sym c.state_is_finite.ensures ∙ c.if-state_is_finite.true)
    (rw (c.answer_of.ensures, c.orbit_of.ensures))

pub returns-then-is_body : goal.returns-then-is_body
unfolding figures_about
returns-then-is_body c = rw (sym c.is_body.ensures ∙ c.if-is_body.true, sym c.state_is_finite.ensures ∙ c.if-state_is_finite.false)

pub returns : goal.returns
unfolding figures_about
returns c = rw (sym c.is_body.ensures ∙ c.if-is_body.false)
