-- `book_search::search::search` meets its contract. The invariant: only entries from low to high can serve. Assumes nothing.
use native.Mathlib.Omega.{arith}
use Prim.Native.Nat.{◌+◌, ◌≤◌, ◌<◌}
use mathlib.Core.Path.{sym}
use lib.ListN.{length}
use Rattle.book_check.specs.Contents.{entry_count, entry_at}
use Rattle.book_check.proofs.Passing.{passing, contents_inside}
use Rattle.book_search.proofs.Found.{found, narrow_past, narrow_before, nothing_left}
use Rattle.book_search.proofs.search.search.Goals as goal
use Rattle.book_search.proofs.search.search.Goals.{in-Past, in-Before}

pub stand_at-stand-requires : goal.stand_at-stand-requires
stand_at-stand-requires c = ((let reach : (c.loop-low.probe < entry_count c.args.book.now) × (entry_at c.loop-low.probe + 24 ≤ length c.args.book.now) = let q = contents_inside _ (passing _ c.requires.book_value) in let in-it = c.loop-low.invariant.probed c.loop-low-test.true in let w = c.loop-low.invariant.within in omega arith in reach)).1

pub returns-in-Covered : goal.returns-in-Covered
returns-in-Covered c = let st = rw c.in-Covered.is at c.stand_at-stand.ensures in
    sym (found _ _ _ (passing _ c.requires.book_value) _ ((let reach : (c.loop-low.probe < entry_count c.args.book.now) × (entry_at c.loop-low.probe + 24 ≤ length c.args.book.now) = let q = contents_inside _ (passing _ c.requires.book_value) in let in-it = c.loop-low.invariant.probed c.loop-low-test.true in let w = c.loop-low.invariant.within in omega arith in reach)).0 (record { own = st.0; from = st.1; until = st.2 }))

pub loop-low-preserved : goal.loop-low-preserved
loop-low-preserved c =
    let p = passing _ c.requires.book_value in
    let l = c.loop-low-test.true in
    let in-it = c.loop-low.invariant.probed l in
    elim c.match-stand.branch [
      | in-Past w ↦ let st = rw w.in-Past.is at c.stand_at-stand.ensures in
          rw (w.low-is, w.high-is) (narrow_past _ _ _ p _ _ _ _ c.loop-low.invariant l st (λ h. omega arith))
      | in-Before w ↦ let st = rw w.in-Before.is at c.stand_at-stand.ensures in
          rw (w.low-is, w.high-is) (narrow_before _ _ _ p _ _ _ _ c.loop-low.invariant l st (λ h. omega arith))
    ]

pub returns : goal.returns
returns c = sym (nothing_left _ _ _ _ _ _ c.loop-low.invariant c.loop-low-test.false)
