-- `book_holds::entry::reach` meets its contract. The invariant: the entries below `next` come before the entry. Assumes nothing.
use Rattle.book_holds.specs.Walk.{AllBefore}
use Rattle.book_holds.proofs.entry.reach.Given as goal

abbrev pub invariant-loop-next : goal.invariant-loop-next
invariant-loop-next l = AllBefore l.second l.next l.first l.i
