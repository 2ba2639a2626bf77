-- `state::terms_are_allowed` meets its contract. Assumes nothing.
use mathlib.Core.Path.{sym, ◌∙◌, ap}
use borrow.Author.Tests.{not-true, not-false}
use Rattle.state.specs.State.{terms_allowed}
use mathlib.Core.Bool.{not}
use Rattle.state.proofs.terms_are_allowed.Goals as goal

pub returns-then-not-coefficient_is_allowed : goal.returns-then-not-coefficient_is_allowed
unfolding terms_allowed
returns-then-not-coefficient_is_allowed c = rw (sym c.coefficient_is_allowed.ensures ∙ not-true _ (ap not c.if-not-coefficient_is_allowed.true))

pub returns-then-not-coefficient_is_allowed-2 : goal.returns-then-not-coefficient_is_allowed-2
unfolding terms_allowed
returns-then-not-coefficient_is_allowed-2 c = rw (sym c.coefficient_is_allowed.ensures ∙ not-false _ (ap not c.if-not-coefficient_is_allowed.false), sym c.coefficient_is_allowed-2.ensures ∙ not-true _ (ap not c.if-not-coefficient_is_allowed-2.true))

pub returns : goal.returns
unfolding terms_allowed
returns c = rw (sym c.coefficient_is_allowed.ensures ∙ not-false _ (ap not c.if-not-coefficient_is_allowed.false))
    (rw (sym c.coefficient_is_allowed-2.ensures ∙ not-false _ (ap not c.if-not-coefficient_is_allowed-2.false), c.coefficient_is_allowed-3.ensures))
