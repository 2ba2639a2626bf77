-- `book_check::inner::floats_below` meets its contract. The invariant: the floats before k are below the limit. Assumes nothing.
use mathlib.Core.Bool.{true}
use mathlib.Core.Path.{◌≡◌}
use Rattle.book_check.specs.Check.{floats_below}
use Rattle.book_check.proofs.inner.floats_below.Given as goal

abbrev pub invariant-loop-k : goal.invariant-loop-k
invariant-loop-k l = floats_below l.limit l.book l.at l.k ≡ true
