-- `listing_write::inner::portion` meets its contract: at the loop's test the bytes written and the text from now on make up the whole
-- (`Listing`). The measure is the number of steps left. Assumes nothing.
use mathlib.Core.Path.{◌≡◌}
use lib.ListN.{length}
use Rattle.listing_write.proofs.Courses.{Listing}
use Rattle.listing_write.proofs.inner.portion.Given as goal

abbrev pub invariant-loop-at : goal.invariant-loop-at
invariant-loop-at l = (length l.out ≡ length l.initial.out)
    × Listing l.book l.setting l.h (record { state = l.initial.now; entries = l.initial.entries; left = l.initial.left; done = l.initial.done })
    l.initial.out l.out l.now l.entries l.left l.done l.at

abbrev pub decreases-loop-at : goal.decreases-loop-at
decreases-loop-at l = l.left
