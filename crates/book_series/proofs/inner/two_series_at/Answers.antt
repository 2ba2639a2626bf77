-- `book_series::inner::two_series_at` meets its contract. The invariant of each loop: the coefficients of a body from its k on are done, as in
-- `series_at`. Before the third loop both have come to the smaller n. Assumes nothing.
use native.Mathlib.Omega.{arith}
use Rattle.book_series.proofs.Turns.{no_turn, one_turn, last_turn_lem}
use Rattle.book_series.proofs.inner.two_series_at.Goals as goal

pub loop-k-init : goal.loop-k-init
loop-k-init c = (rw c.no_sums-a.ensures (no_turn _ _ _ c.requires.le_n.0), omega arith)

pub loop-k-preserved : goal.loop-k-preserved
loop-k-preserved c = (rw c.turn_of-a.ensures (one_turn _ _ _ _ _ c.loop-k.invariant.0 (omega arith)), omega arith)

pub loop-j-init : goal.loop-j-init
loop-j-init c = (rw c.no_sums-b.ensures (no_turn _ _ _ c.requires.le_n2.0), omega arith)

pub loop-j-preserved : goal.loop-j-preserved
loop-j-preserved c = (rw c.turn_of-b.ensures (one_turn _ _ _ _ _ c.loop-j.invariant.0 (omega arith)), omega arith)

pub loop-k-2-preserved : goal.loop-k-2-preserved
loop-k-2-preserved c = let at = c.loop-k-2.invariant in
    let more = c.loop-k-2-test.true in
    (rw c.turn_of-a-in-loop-k-2.ensures (one_turn _ _ _ _ _ at.0 more), rw c.turn_of-b-in-loop-k-2.ensures (one_turn _ _ _ _ _ at.1 more))

pub returns : goal.returns
returns c = let at = c.loop-k-2.invariant in
    let done = c.loop-k-2-test.false in
    record { first_value = rw c.place_of-first.ensures (last_turn_lem _ _ _ _ _ at.0 done); second_value = rw c.place_of-second.ensures (last_turn_lem _ _ _ _ _ at.1 done) }
