-- `root_split::subnormal` meets its contract: the places halve six times, and the highest digit is then at 2^52. Assumes nothing.
use mathlib.Core.Path.{◌≡◌, ◌∙◌}
use Prim.Native.Nat.{ℕ, ◌*◌, ◌^◌}
use native.Mathlib.Omega.{arith}
use Rattle.root_split.specs.Parts.{Split}
use lib.Dec.{lit≤}
use Rattle.root_split.proofs.subnormal.Goals as goal

-- what is split is the subnormal itself, written with other digits
written : (d e d' e' m h : ℕ) → d' * 2 ^ e' ≡ d * 2 ^ e → Split d' e' m h → Split d e m h
written d e d' e' m h p s = record { least = s.least; most = s.most; top = s.top; same = s.same ∙ p }

pub raised-by_32-requires : goal.raised-by_32-requires
raised-by_32-requires c = (lit≤ tt, record { least = c.requires.0; most = omega arith; left = lit≤ tt })

pub raised-by_16-requires : goal.raised-by_16-requires
raised-by_16-requires c = (lit≤ tt, c.raised-by_32.ensures.room)

pub raised-by_8-requires : goal.raised-by_8-requires
raised-by_8-requires c = (lit≤ tt, c.raised-by_16.ensures.room)

pub raised-by_4-requires : goal.raised-by_4-requires
raised-by_4-requires c = (lit≤ tt, c.raised-by_8.ensures.room)

pub raised-by_2-requires : goal.raised-by_2-requires
raised-by_2-requires c = (lit≤ tt, c.raised-by_4.ensures.room)

pub raised-by_1-requires : goal.raised-by_1-requires
raised-by_1-requires c = (lit≤ tt, c.raised-by_2.ensures.room)

-- a subnormal has at least one digit, and none at 2^52
pub split-requires : goal.split-requires
split-requires c = let r = c.raised-by_1.ensures in let c3 = c.before in let e = c.raised-by_2.ensures in let d = c.raised-by_4.ensures in (
  r.room.least,
  r.room.most,
  omega (arith, r.less, e.less, d.less, c3.raised-by_8.ensures.less, c3.raised-by_16.ensures.less, c3.raised-by_32.ensures.less),
)

pub returns : goal.returns
returns c = let c1 = c.before in
    let c2 = c1.before in
    let c3 = c2.before in
    let c4 = c3.before in
    let c5 = c4.before in
    let c6 = c5.before in
    written c6.args.bits 1022 _ _ _ _
    (c1.raised-by_1.ensures.same
    ∙ c2.raised-by_2.ensures.same
    ∙ c3.raised-by_4.ensures.same
    ∙ c4.raised-by_8.ensures.same
    ∙ c5.raised-by_16.ensures.same
    ∙ c6.raised-by_32.ensures.same)
    c.split.ensures
