-- `sine::inner::of_parts` meets its contract. Assumes nothing.
use borrow.Author.Rules.{rules}
use Rattle.sine.specs.Sine.{sine_cosine}
use Rattle.sine.proofs.Octants.{within_le}
use Rattle.sine.proofs.inner.of_parts.Goals as goal

pub radians-a-requires : goal.radians-a-requires
radians-a-requires c = rw c.from_axis.ensures (within_le _ _ (search rules))

pub returns : goal.returns
unfolding sine_cosine
returns c = simp (
  c.of_octant.ensures,
  c.cosine_of.ensures,
  c.sine_of.ensures,
  c.radians-a.ensures,
  c.from_axis.ensures,
)
