-- `listing_lines::inner::sixteen` meets its contract: the digits so far spell the bits. Assumes nothing.
use Prim.Native.Nat.{ℕ, ◌+◌, ◌-◌, ◌<◌}
use mathlib.Core.List.{List}
use mathlib.Core.Path.{◌≡◌, sym, ap, ◌∙◌}
use native.Mathlib.Omega.{arith}
use lib.ListN.{get_or, take, drop}
use Rattle.std.proofs.lemmas.List.{get_or-take, get_or-drop}
use Rattle.listing_lines.specs.Digits.{hex_value}
use Rattle.listing_lines.proofs.Laws.{spelled_on, spelled_off, spelled_all}
use Rattle.listing_lines.proofs.inner.sixteen.Goals as goal

-- the bytes of the part are those of the block
within : (block : List ℕ) (at i : ℕ) → i < 16 → hex_value (get_or (take (at + 16 - at) (drop at block)) i 0) ≡ hex_value (get_or block (at + i) 0)
within block at i h = ap hex_value (get_or-take (at + 16 - at) (drop at block) i 0 (omega arith) ∙ get_or-drop at block i 0)

pub returns-then-d-ge16 : goal.returns-then-d-ge16
returns-then-d-ge16 c = let loop = c.before in
    let start = loop.before in
    let block = start.args.block.now in
    let at = start.args.at in
    let i = loop.loop-b.b-index in
    sym
    (loop.loop-b.invariant
    ∙ spelled_off block (at + i) loop.loop-b.bits _ (c.value_of-d.ensures ∙ within block at i (omega arith)) (16 - i) (omega arith) c.if-d-ge16.true)

pub loop-b-preserved : goal.loop-b-preserved
loop-b-preserved c = let block = c.args.block.now in
    let at = c.args.at in
    let i = c.loop-b.b-index in
    let fewer : 16 - (i + 1) ≡ 16 - i - 1 = omega arith in
    let next : at + (i + 1) ≡ at + i + 1 = omega arith in
    rw (fewer, next)
    (c.loop-b.invariant
    ∙ spelled_on block (at + i) c.loop-b.bits _ (c.value_of-d.ensures ∙ within block at i (omega arith)) (16 - i) (omega arith) c.if-d-ge16.false)

pub returns : goal.returns
returns c = sym (c.loop-b.invariant ∙ spelled_all c.args.block.now (c.args.at + c.loop-b.b-index) c.loop-b.bits (16 - c.loop-b.b-index) (omega arith))
