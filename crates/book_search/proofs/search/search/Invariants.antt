-- `book_search::search::search` meets its contract. The invariant: only entries from low to high can serve. Assumes nothing.
use Prim.Native.Nat.{◌-◌}
use Rattle.book_search.specs.Stands.{Narrowed}
use Rattle.book_search.proofs.search.search.Given as goal

abbrev pub invariant-loop-low : goal.invariant-loop-low
invariant-loop-low l = Narrowed l.book l.body l.moment l.low l.high l.probe

abbrev pub decreases-loop-low : goal.decreases-loop-low
decreases-loop-low l = l.high - l.low
