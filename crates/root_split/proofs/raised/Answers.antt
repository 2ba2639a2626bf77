-- `root_split::raised` meets its contract: below 2^(53 - s) digits go up by s places. Assumes nothing.
use mathlib.Core.Path.{◌≡◌, refl, sym, ap, ◌∙◌, subst}
use Prim.Native.Nat.{ℕ, ◌+◌, ◌-◌, ◌*◌, ◌/◌, ◌%◌, ◌^◌, ◌≤◌, ◌<◌}
use native.Mathlib.Nat.{le_trans, le_of_eq, mul-le-mul_right, mul_assoc, mul-div_cancel}
use native.Mathlib.Omega.{arith}
use lib.Pow.{pow-add, pow_pos, pow_mono, shl_lt}
use Rattle.root_split.specs.Parts.{Room, Raised}
use Rattle.root_split.proofs.raised.Goals as goal

-- what is below 2^53 / 2^s, with s places more
top-shifted : (s : ℕ) → s ≤ 32 → 2 ^ 53 / 2 ^ s ≡ 2 ^ (53 - s)
top-shifted s h =
    let e : 53 ≡ 53 - s + s = omega arith in
    ap (λ (z : ℕ). z / 2 ^ s) (ap (λ (z : ℕ). 2 ^ z) e ∙ pow-add 2 (53 - s) s) ∙ mul-div_cancel (2 ^ (53 - s)) (pow_pos s)

goes-up : (s d e : ℕ) → s ≤ 32 → Room (s + s) d e → d < 2 ^ (53 - s) → Raised s d e (d * 2 ^ s % 2 ^ 64) (e - s)
goes-up s d e S r h =
    let l : 53 - s ≤ 53 - (s + s) + s = omega arith in
    let t : 53 - s + s ≡ 53 = omega arith in
    let low : 2 ^ (53 - s) ≤ d * 2 ^ s = le_trans (pow_mono l) (le_trans (le_of_eq (pow-add 2 (53 - (s + s)) s)) (mul-le-mul_right (2 ^ s) r.least)) in
    let high : d * 2 ^ s < 2 ^ 53 = subst (λ (z : ℕ). d * 2 ^ s < 2 ^ z) t (shl_lt {a = d} (53 - s) s h) in
    let kept : d * 2 ^ s % 2 ^ 64 ≡ d * 2 ^ s = omega arith in
    let back : s + (e - s) ≡ e = omega (arith, r.left) in
    record {
      room = record { least = le_trans low (le_of_eq (sym kept)); most = omega arith; left = omega (arith, r.left) };
      less = omega arith;
      same = ap (λ (z : ℕ). z * 2 ^ (e - s)) kept ∙ mul_assoc d (2 ^ s) (2 ^ (e - s)) ∙ ap (λ (z : ℕ). d * z) (sym (pow-add 2 s (e - s)) ∙ ap (λ (z : ℕ). 2 ^ z) back);
    }

stays : (s d e : ℕ) → Room (s + s) d e → 2 ^ (53 - s) ≤ d → Raised s d e d e
stays s d e r h = record { room = record { least = h; most = r.most; left = omega (arith, r.left) }; less = omega arith; same = refl }

pub returns-then-p-s : goal.returns-then-p-s
returns-then-p-s c = let start = c.before in
    goes-up start.args.s start.args.p.digits start.args.p.exponent start.requires.0 start.requires.1
    (subst (λ (z : ℕ). start.args.p.digits < z) (top-shifted start.args.s start.requires.0) c.if-p-s.true)

pub returns : goal.returns
returns c = let start = c.before in
    stays start.args.s start.args.p.digits start.args.p.exponent start.requires.1
    (subst (λ (z : ℕ). z ≤ start.args.p.digits) (top-shifted start.args.s start.requires.0) c.if-p-s.false)
