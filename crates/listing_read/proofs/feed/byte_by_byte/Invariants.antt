-- `listing_read::feed::byte_by_byte` meets its contract: there is no line feed between its start and i. Assumes nothing.
use mathlib.Core.Path.{◌≡◌}
use Rattle.listing_read.specs.Reached.{to_feed}
use Rattle.listing_read.proofs.feed.byte_by_byte.Given as goal

abbrev pub invariant-loop-i : goal.invariant-loop-i
invariant-loop-i l = to_feed l.block l.at l.initial.s ≡ to_feed l.block l.i l.s
