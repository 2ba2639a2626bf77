-- `state::coefficients_are_allowed` meets its contract. Assumes nothing.
use mathlib.Core.Path.{sym, ◌∙◌, ap}
use borrow.Author.Tests.{not-true, not-false}
use Rattle.state.specs.State.{coefficients_allowed}
use mathlib.Core.Bool.{not}
use Rattle.state.proofs.coefficients_are_allowed.Goals as goal

pub returns-then-not-earth_is_allowed : goal.returns-then-not-earth_is_allowed
unfolding coefficients_allowed
returns-then-not-earth_is_allowed c = rw (sym c.earth_is_allowed.ensures ∙ not-true _ (ap not c.if-not-earth_is_allowed.true))

pub returns-then-not-coefficient_is_allowed : goal.returns-then-not-coefficient_is_allowed
unfolding coefficients_allowed
returns-then-not-coefficient_is_allowed c = rw (sym c.earth_is_allowed.ensures ∙ not-false _ (ap not c.if-not-earth_is_allowed.false), sym c.coefficient_is_allowed.ensures ∙ not-true _ (ap not c.if-not-coefficient_is_allowed.true))

pub returns-then-not-coefficient_is_allowed-2 : goal.returns-then-not-coefficient_is_allowed-2
unfolding coefficients_allowed
returns-then-not-coefficient_is_allowed-2 c = let at = c.before in
    rw (sym at.earth_is_allowed.ensures ∙ not-false _ at.if-not-earth_is_allowed.false-raw)
    (rw (sym c.coefficient_is_allowed.ensures ∙ not-false _ (ap not c.if-not-coefficient_is_allowed.false))
    (rw (sym c.coefficient_is_allowed-2.ensures ∙ not-true _ (ap not c.if-not-coefficient_is_allowed-2.true))))

pub returns-then-not-coefficient_is_allowed-3 : goal.returns-then-not-coefficient_is_allowed-3
unfolding coefficients_allowed
returns-then-not-coefficient_is_allowed-3 c = let at = c.before in
    rw (sym at.earth_is_allowed.ensures ∙ not-false _ at.if-not-earth_is_allowed.false-raw)
    (rw (sym at.coefficient_is_allowed.ensures ∙ not-false _ at.if-not-coefficient_is_allowed.false-raw)
    (rw (sym c.coefficient_is_allowed-2.ensures ∙ not-false _ (ap not c.if-not-coefficient_is_allowed-2.false))
    (rw (sym c.coefficient_is_allowed-3.ensures ∙ not-true _ (ap not c.if-not-coefficient_is_allowed-3.true)))))

pub returns-then-not-coefficient_is_allowed-4 : goal.returns-then-not-coefficient_is_allowed-4
unfolding coefficients_allowed
returns-then-not-coefficient_is_allowed-4 c = let at = c.before in
    rw (sym at.earth_is_allowed.ensures ∙ not-false _ at.if-not-earth_is_allowed.false-raw)
    (rw (sym at.coefficient_is_allowed.ensures ∙ not-false _ at.if-not-coefficient_is_allowed.false-raw)
    (rw (sym at.coefficient_is_allowed-2.ensures ∙ not-false _ at.if-not-coefficient_is_allowed-2.false-raw)
    (rw (sym c.coefficient_is_allowed-3.ensures ∙ not-false _ (ap not c.if-not-coefficient_is_allowed-3.false))
    (rw (sym c.coefficient_is_allowed-4.ensures ∙ not-true _ (ap not c.if-not-coefficient_is_allowed-4.true))))))

pub returns : goal.returns
unfolding coefficients_allowed
returns c = let at = c.before in
    rw (sym at.earth_is_allowed.ensures ∙ not-false _ at.if-not-earth_is_allowed.false-raw)
    (rw (sym at.coefficient_is_allowed.ensures ∙ not-false _ at.if-not-coefficient_is_allowed.false-raw)
    (rw (sym at.coefficient_is_allowed-2.ensures ∙ not-false _ at.if-not-coefficient_is_allowed-2.false-raw)
    (rw (sym at.coefficient_is_allowed-3.ensures ∙ not-false _ (ap not c.if-not-coefficient_is_allowed-3.false))
    (rw (sym c.coefficient_is_allowed-4.ensures ∙ not-false _ (ap not c.if-not-coefficient_is_allowed-4.false), c.coefficient_is_allowed-5.ensures)))))
