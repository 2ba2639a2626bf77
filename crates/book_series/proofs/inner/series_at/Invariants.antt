-- `book_series::inner::series_at` meets its contract. The invariant: the coefficients from k on are done, of each axis. Assumes nothing.
use Rattle.book_check.specs.Contents.{float_of}
use Rattle.book_series.proofs.Turns.{Done}
use Rattle.book_series.proofs.inner.series_at.Given as goal

abbrev pub invariant-loop-k : goal.invariant-loop-k
invariant-loop-k l = Done l.w (float_of l.book l.offset) l.n l.k l.s
