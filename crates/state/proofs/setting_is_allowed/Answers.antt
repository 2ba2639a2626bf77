-- `state::setting_is_allowed` meets its contract. Assumes nothing.
use mathlib.Core.Path.{sym, ◌∙◌}
use borrow.Author.Tests.{le-leb, lt-leb}
use Rattle.state.specs.State.{setting_allowed}
use Rattle.state.proofs.setting_is_allowed.Goals as goal

pub returns-then-s-le-LONGEST_DUT : goal.returns-then-s-le-LONGEST_DUT
unfolding setting_allowed
returns-then-s-le-LONGEST_DUT c = let at = c.before in
    rw (sym at.coefficients_are_allowed.ensures ∙ at.if-coefficients_are_allowed.true)
    (rw (sym at.terms_are_allowed.ensures ∙ c.if-terms_are_allowed.true, le-leb _ _ c.if-s-le-LONGEST_DUT.true))

pub returns-else-s-le-LONGEST_DUT : goal.returns-else-s-le-LONGEST_DUT
unfolding setting_allowed
returns-else-s-le-LONGEST_DUT c = let at = c.before in
    rw (sym at.coefficients_are_allowed.ensures ∙ at.if-coefficients_are_allowed.true, sym c.terms_are_allowed.ensures ∙ c.if-terms_are_allowed.true, lt-leb _ _ c.if-s-le-LONGEST_DUT.false)

pub returns-else-terms_are_allowed : goal.returns-else-terms_are_allowed
unfolding setting_allowed
returns-else-terms_are_allowed c = rw (sym c.coefficients_are_allowed.ensures ∙ c.if-coefficients_are_allowed.true, sym c.terms_are_allowed.ensures ∙ c.if-terms_are_allowed.false)

pub returns-else-coefficients_are_allowed : goal.returns-else-coefficients_are_allowed
unfolding setting_allowed
returns-else-coefficients_are_allowed c = rw (sym c.coefficients_are_allowed.ensures ∙ c.if-coefficients_are_allowed.false)
