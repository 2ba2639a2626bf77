-- `book::calm::book_calm` meets its contract. The invariant: the coefficients of the entries before i are below the limit. Assumes nothing.
use mathlib.Core.Bool.{true}
use mathlib.Core.Path.{◌≡◌}
use Rattle.book.proofs.Slow.{calm_before}
use Rattle.book.proofs.calm.book_calm.Given as goal

abbrev pub invariant-loop-i : goal.invariant-loop-i
invariant-loop-i l = calm_before l.book l.i ≡ true
