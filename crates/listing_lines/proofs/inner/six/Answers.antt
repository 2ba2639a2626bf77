-- `listing_lines::inner::six` meets its contract. Assumes nothing.
use mathlib.Core.Path.{refl}
use Rattle.listing_lines.proofs.Laws.{agrees, values_are}
use Rattle.listing_lines.proofs.inner.six.Goals as goal

pub six_by-requires : goal.six_by-requires
unfolding agrees
six_by-requires c = record { at_in_bounds = c.requires; values = values_are _ refl refl }
