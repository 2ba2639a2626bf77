-- `gravity::inner::seen_at` meets its contract. Assumes nothing.
use Rattle.gravity.specs.Sight.{sights}
use Rattle.gravity.proofs.inner.seen_at.Goals as goal

pub returns : goal.returns
unfolding sights
returns c = let s = c.seen_from-seen.ensures in (
  rw (c.difference-2.ensures, c.difference.ensures, c.coefficient_of.ensures)
      (rw (c.entries_of.ensures, c.all_found.ensures, s.0)
      (rw (c.beside.ensures, c.centre_place-c.ensures)
      (rw (c.blank_sight-earth.ensures, c.found_in-bodies.ensures)))),
  s.1,
)
