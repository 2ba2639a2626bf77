-- `book_check::inner::entries_pass` meets its contract. The invariant: the entries before i are checked, and block i has to begin at `place`. Assumes nothing.
use native.Mathlib.Omega.{arith}
use native.Mathlib.Numerals.{add-one}
use mathlib.Core.Path.{◌≡◌, sym, ◌∙◌}
use Rattle.book_check.specs.Contents.{entry_count}
use Rattle.book_check.proofs.Passing.{passing}
use Rattle.book_check.proofs.Checked.{Held, passing_holds, passing_next, one_more, by_length, held}
use Rattle.base.proofs.Bools.{is_false, clash}
use Rattle.book_check.proofs.inner.entries_pass.Goals as goal

pub returns-then-not-entry_holds : goal.returns-then-not-entry_holds
returns-then-not-entry_holds c = sym (is_false _ (λ h. clash (passing_holds _ (passing _ h) c.loop-i.i (omega arith)) (rw (
  ← c.loop-i.invariant.0,
  ← c.entry_holds.ensures,
) (c.if-not-entry_holds.true))))

pub returns-then-not-next_in_order : goal.returns-then-not-next_in_order
returns-then-not-next_in_order c = sym (is_false _ (λ h. clash (passing_next _ (passing _ h) c.loop-i.i (omega arith)) (rw (
  ← c.requires.count_value.0,
  ← c.next_in_order.ensures,
) (c.if-not-next_in_order.true))))

pub loop-i-preserved : goal.loop-i-preserved
loop-i-preserved c = let t = (let holds : Held c.args.book.now c.loop-i.i c.loop-i.place = held _ _ _ (sym c.entry_holds.ensures ∙ c.if-not-entry_holds.false) in holds) in (
  rw add-one (omega arith),
  omega arith,
  one_more _ _ c.loop-i.invariant.2
      (rw (← c.loop-i.invariant.0) t)
      (rw (← c.requires.count_value.0) (sym c.next_in_order.ensures ∙ c.if-not-next_in_order.false)),
)

pub returns : goal.returns
returns c = let e : c.loop-i.i ≡ entry_count c.args.book.now = omega arith in
    rw (c.loop-i.invariant.0, e) (by_length _ c.requires.book_len.0 c.requires.book_len.1 (rw (← e) c.loop-i.invariant.2))
