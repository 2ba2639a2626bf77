-- `book_holds::walk` meets its contract. The invariant: the entries of the first book below i are held, and those of the second below j come
-- before entry i. Assumes nothing.
use Prim.Native.Nat.{ℕ, ◌<◌, ◌≤◌}
use Rattle.book.specs.Contents.{entry_count}
use Rattle.book_holds.specs.Holds.{HasCopy}
use Rattle.book_holds.specs.Walk.{AllBefore}
use Rattle.book_holds.proofs.walk.Given as goal

abbrev pub invariant-loop-i : goal.invariant-loop-i
invariant-loop-i l = (l.j ≤ entry_count l.second) × ((k : ℕ) → k < l.i → HasCopy l.first l.second k) × (l.i < entry_count l.first → AllBefore l.second l.j l.first l.i)
