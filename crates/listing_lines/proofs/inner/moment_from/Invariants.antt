-- `listing_lines::inner::moment_from` meets its contract: the digits between the first place and i spell t. Assumes nothing.
use mathlib.Core.Path.{◌≡◌}
use lib.ListN.{drop}
use Rattle.listing_lines.specs.Whole.{moment_on}
use Rattle.listing_lines.proofs.inner.moment_from.Given as goal

abbrev pub invariant-loop-i : goal.invariant-loop-i
invariant-loop-i l = moment_on (drop l.at l.block) l.initial.t l.at ≡ moment_on (drop l.i l.block) l.t l.i
