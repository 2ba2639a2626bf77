-- `listing_write::inner::portion` meets its contract: at the loop's test the bytes written and the text from now on make up the whole
-- (`Listing`). The measure is the number of steps left. Assumes nothing.
use Prim.Native.Nat.{ℕ}
use mathlib.Core.Path.{◌≡◌, refl, sym, ◌∙◌}
use native.Mathlib.Omega.{arith}
use Rattle.book.specs.Calm.{Ready}
use Rattle.run.specs.declared.Outcome.TheVariants.{Arrived, Going}
use Rattle.listing_write.proofs.Courses.{begins, stands, text_ends, ends, refuses, goes_on}
use Rattle.listing_write.proofs.inner.portion.Goals as goal

pub book_calm-calm-requires : goal.book_calm-calm-requires
book_calm-calm-requires c = c.requires.pass

pub loop-at-init : goal.loop-at-init
loop-at-init c = let x = c.args in (refl, begins x.book.now x.setting x.h x.from x.out.now c.requires)

pub overflow_add-at : goal.overflow_add-at
overflow_add-at c = let w = c.loop-at.invariant.1.within in omega (arith, c.loop-at.invariant.0, c.well_formed)

pub portion_of-requires : goal.portion_of-requires
portion_of-requires c = tt

pub returns-then-left-eq0 : goal.returns-then-left-eq0
returns-then-left-eq0 c = let x = c.args in
    let l = c.loop-at in
    rw c.portion_of.ensures
    (ends x.book.now x.setting x.h x.from x.out.now l.out l.now l.entries l.left l.done l.at l.invariant.1
    Arrived (text_ends _ _ _ l.left c.if-left-eq0.true) (λ z. let k : ◌≡◌ {A = ℕ} 0 1 = cc in absurd (omega arith)))

pub step_under-stepped-requires : goal.step_under-stepped-requires
step_under-stepped-requires c = let x = c.args in
    let l = c.loop-at in
    ((let ready : Ready c.args.book.now c.book_calm-calm.result = record { pass = c.requires.pass; calmly = λ told. sym c.book_calm-calm.ensures ∙ told } in ready), stands x.book.now x.setting x.h x.from x.out.now l.out l.now l.entries l.left l.done l.at l.invariant.1)

pub put_state-at-requires : goal.put_state-at-requires
put_state-at-requires c = c.loop-at-test.true

pub overflow_add-done : goal.overflow_add-done
overflow_add-done c = let few = c.loop-at.invariant.1.on.counts in omega arith

pub loop-at-smaller : goal.loop-at-smaller
loop-at-smaller c = let some = c.if-left-eq0.false in omega arith

pub loop-at-preserved : goal.loop-at-preserved
loop-at-preserved c = let l = c.loop-at in
    let x = c.args in (
      c.put_state-at.auto.out ∙ l.invariant.0,
      goes_on x.book.now x.setting x.h x.from x.out.now l.out l.now l.entries l.left l.done l.at l.invariant.1
          c.if-left-eq0.false _ _ _ (sym c.in-Ok.is ∙ c.step_under-stepped.ensures)
          c.put_state-at.ensures c.loop-at-test.true c.put_state-at.auto.out,
    )

pub portion_of-requires-in-Err : goal.portion_of-requires-in-Err
portion_of-requires-in-Err c = tt

pub returns-in-Err : goal.returns-in-Err
returns-in-Err c = let x = c.args in
    let l = c.loop-at in
    rw c.portion_of-in-Err.ensures
    (refuses x.book.now x.setting x.h x.from x.out.now l.out l.now l.entries l.left l.done l.at l.invariant.1
    c.if-left-eq0.false _ (sym c.in-Err.is ∙ c.step_under-stepped.ensures))

pub portion_of-requires-2 : goal.portion_of-requires-2
portion_of-requires-2 c = tt

pub returns : goal.returns
returns c = let x = c.args in
    let l = c.loop-at in
    rw c.portion_of-2.ensures
    (ends x.book.now x.setting x.h x.from x.out.now l.out l.now l.entries l.left l.done l.at l.invariant.1 Going refl (λ z. c.loop-at-test.false))
