-- `sine::inner::from_axis` meets its contract. Assumes nothing.
use borrow.Author.Tests.{eq-eqb, ne_eqb}
use Rattle.sine.specs.Sine.{within}
use Rattle.sine.proofs.inner.from_axis.Goals as goal

pub returns-then-q-eq0 : goal.returns-then-q-eq0
unfolding within
returns-then-q-eq0 c = simp (eq-eqb _ _ c.if-q-eq0.true)

pub returns : goal.returns
unfolding within
returns c = simp (ne_eqb _ _ c.if-q-eq0.false)
