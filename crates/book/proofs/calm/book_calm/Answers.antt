-- `book::calm::book_calm` meets its contract. The invariant: the coefficients of the entries before i are below the limit. Assumes nothing.
use native.Mathlib.Omega.{arith}
use Prim.Native.Nat.{◌<◌}
use mathlib.Core.Path.{◌≡◌, sym}
use Rattle.book_check.specs.Contents.{entry_count}
use Rattle.book.specs.Calm.{calm}
use Rattle.book_check.proofs.Passing.{passing, contents_inside, block_inside}
use Rattle.base.proofs.Bools.{is_false, clash}
use Rattle.book.proofs.Slow.{calm_at}
use Rattle.book.proofs.calm.book_calm.Goals as goal

pub u32_at-count-requires : goal.u32_at-count-requires
u32_at-count-requires c = let q = contents_inside _ (passing _ c.requires) in omega arith

pub offset_of-requires : goal.offset_of-requires
offset_of-requires c = let q = contents_inside _ (passing _ c.requires) in let e = c.u32_at-count.ensures in omega arith

pub size_of-requires : goal.size_of-requires
size_of-requires c = let q = contents_inside _ (passing _ c.requires) in let e = c.u32_at-count.ensures in omega arith

pub floats_below-requires : goal.floats_below-requires
floats_below-requires c = let p = passing _ c.requires in
    let l : c.loop-i.i < entry_count c.args.book.now = rw (← c.u32_at-count.ensures) c.loop-i-test.true in
    let inside = block_inside _ p c.loop-i.i l in
    let placed = p.placed c.loop-i.i l in
    omega arith

pub returns-then-not-floats_below : goal.returns-then-not-floats_below
returns-then-not-floats_below c = let i = c.loop-i.i in
    sym
    (is_false _
    (λ h.
    clash (calm_at _ h i (rw (← c.u32_at-count.ensures) c.loop-i-test.true))
    (rw (← c.offset_of.ensures.0, ← c.size_of.ensures.0, ← c.floats_below.ensures) (c.if-not-floats_below.true))))

pub returns : goal.returns
unfolding calm
returns c = let e : c.loop-i.i ≡ entry_count c.args.book.now = omega arith in rw (← e) (sym c.loop-i.invariant)
