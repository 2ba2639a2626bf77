-- `listing_lines::inner::component` meets its contract. Assumes nothing.
use borrow.Author.Tests.{eq-eqb, ne_eqb}
use Rattle.listing_lines.specs.Whole.{component_at}
use Rattle.listing_lines.proofs.inner.component.Goals as goal

pub returns-then-block-at-eq32 : goal.returns-then-block-at-eq32
unfolding component_at
returns-then-block-at-eq32 c = rw (c.finite_only.ensures, c.sixteen.ensures, eq-eqb _ 32 c.if-block-at-eq32.true)

pub returns : goal.returns
unfolding component_at
returns c = rw (ne_eqb _ 32 c.if-block-at-eq32.false)
