-- `book_series::inner::two_series_at` meets its contract. The invariant of each loop: the coefficients of a body from its k on are done, as in
-- `series_at`. Before the third loop both have come to the smaller n. Assumes nothing.
use Prim.Native.Nat.{◌≤◌}
use Rattle.book_check.specs.Contents.{float_of}
use Rattle.book_series.proofs.Turns.{Done}
use Rattle.book_series.proofs.inner.two_series_at.Given as goal

abbrev pub invariant-loop-k : goal.invariant-loop-k
invariant-loop-k l = Done l.w (float_of l.book l.offset) l.n l.k l.a × (l.shared ≤ l.k)

abbrev pub invariant-loop-j : goal.invariant-loop-j
invariant-loop-j l = Done l.w2 (float_of l.book l.offset2) l.n2 l.j l.b × (l.shared ≤ l.j)

abbrev pub invariant-loop-k-2 : goal.invariant-loop-k-2
invariant-loop-k-2 l = Done l.w (float_of l.book l.offset) l.n l.k l.a × Done l.w2 (float_of l.book l.offset2) l.n2 l.k l.b
