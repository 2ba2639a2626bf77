-- `conic::conic_figures` meets its contract. Assumes nothing.
use mathlib.Core.Path.{sym, ◌∙◌}
use Rattle.conic.specs.Conic.{conic_answer}
use Rattle.conic.proofs.conic_figures.Goals as goal

pub returns-then-m : goal.returns-then-m
unfolding conic_answer
returns-then-m c = rw (sym c.is_finite.ensures ∙ c.if-is_finite.true, c.if-m.true, c.figures_about.ensures)

pub returns-else-m : goal.returns-else-m
unfolding conic_answer
returns-else-m c = rw (sym c.is_finite.ensures ∙ c.if-is_finite.true, c.if-m.false)

pub returns-else-is_finite : goal.returns-else-is_finite
unfolding conic_answer
returns-else-is_finite c = rw (sym c.is_finite.ensures ∙ c.if-is_finite.false)
