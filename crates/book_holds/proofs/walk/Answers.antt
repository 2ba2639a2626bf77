-- `book_holds::walk` meets its contract. The invariant: the entries of the first book below i are held, and those of the second below j come
-- before entry i. Assumes nothing.
use native.Mathlib.Omega.{arith}
use mathlib.Core.Path.{sym, ap}
use Rattle.book.proofs.Passing.{passing, contents_inside}
use Rattle.book_holds.proofs.Copies.{none_missing, missing_at}
use Rattle.book_holds.proofs.Reaching.{told_yes, told_no, more_held, go_on}
use Rattle.book_holds.proofs.walk.Goals as goal

pub u32_at-count-requires : goal.u32_at-count-requires
u32_at-count-requires c = let q = contents_inside _ (passing _ c.requires.0) in omega arith

pub loop-i-preserved : goal.loop-i-preserved
loop-i-preserved c = let at-loop = c.before in
    let reached = c.reach-j.ensures in (
      reached.within,
      more_held _ _ _ at-loop.loop-i.invariant.1 (told_yes _ c.if-not-held_at.false c.held_at.ensures),
      λ l. go_on _ _ _ _ (passing _ at-loop.requires.0) reached.all_before l,
    )

pub returns-then-not-held_at : goal.returns-then-not-held_at
returns-then-not-held_at c = let at-loop = c.before in
    let e = at-loop.u32_at-count.ensures in
    sym (missing_at _ _ _ (omega arith) (told_no _ c.if-not-held_at.true c.held_at.ensures) at-loop.loop-i.invariant.1)

pub returns : goal.returns
returns c = let e = c.u32_at-count.ensures in
    sym (none_missing _ _ (λ k l. c.loop-i.invariant.1 k (omega arith)))
