-- The value of a bit pattern: the numbers at or above zero, by the exponent field and the digits. Assumes nothing.
use mathlib.Core.Path.{◌≡◌, refl, sym, ap, ◌∙◌, subst}
use mathlib.Core.Bool.{Bool, true, false, not, cond}
use Prim.Native.Nat.{ℕ, zero, suc, ◌+◌, ◌-◌, ◌*◌, ◌/◌, ◌%◌, ◌^◌, ◌≤◌, ◌<◌}
use native.Mathlib.Nat.{mul-one}
use native.Mathlib.Omega.{arith}
use lib.Dec.{T, eqb, leb, ltb}
use lib.Ieee.{Float, nan, inf, binary64, low, odd, of_fields, of_bits, nan_bits}
use lib.Ieee.Exact.{HasValue, odd_sign}
use lib.Ieee.Positive.{positive}
use lib.Ieee.Bits.{nan_bits_above}
use borrow.Author.Tests.{leb-false, lt-leb, le-ltb, ne_eqb}

pattern : (b : ℕ) → of_bits binary64 b ≡ of_fields binary64 (leb (2 ^ 63) b) (b % 2 ^ 63 / 2 ^ 52) (b % 2 ^ 52)
unfolding of_bits
pattern b = refl

-- ---- a pattern without the sign's bit

fields : (b x t : ℕ) → b ≡ x * 2 ^ 52 + t → t < 2 ^ 52 → x < 2048 → of_bits binary64 b ≡ of_fields binary64 false x t
fields b x t e h l =
    let s : leb (2 ^ 63) b ≡ false = lt-leb (2 ^ 63) b (omega arith) in
    let f : b % 2 ^ 63 / 2 ^ 52 ≡ x = omega arith in
    let d : b % 2 ^ 52 ≡ t = omega arith in
    pattern b
    ∙ ap (λ (z : Bool). of_fields binary64 z (b % 2 ^ 63 / 2 ^ 52) (b % 2 ^ 52)) s
    ∙ ap (λ (z : ℕ). of_fields binary64 false z (b % 2 ^ 52)) f
    ∙ ap (of_fields binary64 false x) d

subnormal_at : (t : ℕ) → of_fields binary64 false 0 t ≡ odd 53 false t 0 (low binary64)
unfolding of_fields
subnormal_at t = refl

normal_at : (i t : ℕ) → suc i < 2047 → of_fields binary64 false (suc i) t ≡ odd 53 false (2 ^ 52 + t) i (low binary64)
unfolding of_fields
normal_at i t h = ap (λ (z : Bool). cond z (cond (eqb t 0) (inf false) nan) (odd 53 false (2 ^ 52 + t) i (low binary64))) (ne_eqb (suc i) 2047 (λ e. omega arith))

pub subnormal_value : (b : ℕ) → b < 2 ^ 52 → HasValue (of_bits binary64 b) false b (2 ^ low binary64)
subnormal_value b h =
    subst (λ (x : Float). HasValue x false b (2 ^ low binary64)) (sym (fields b 0 b (omega arith) h (omega arith) ∙ subnormal_at b))
    (subst (λ (a : ℕ). HasValue (odd 53 false b 0 (low binary64)) false a (2 ^ low binary64)) (mul-one b) (odd_sign 53 false b 0 (low binary64)))

pub normal_value : (b i q : ℕ) → b ≡ i * 2 ^ 52 + q → 2 ^ 52 ≤ q → q < 2 ^ 53 → suc i < 2047 → HasValue (of_bits binary64 b) false (q * 2 ^ i) (2 ^ low binary64)
normal_value b i q e l m h =
    let t = q - 2 ^ 52 in
    let Q : 2 ^ 52 + t ≡ q = omega arith in
    subst (λ (x : Float). HasValue x false (q * 2 ^ i) (2 ^ low binary64)) (sym (fields b (suc i) t (omega arith) (omega arith) (omega arith) ∙ normal_at i t h))
    (subst (λ (z : ℕ). HasValue (odd 53 false (2 ^ 52 + t) i (low binary64)) false (z * 2 ^ i) (2 ^ low binary64)) Q (odd_sign 53 false (2 ^ 52 + t) i (low binary64)))

-- ---- the patterns of what is finite and above zero
odd_signed : (d q k l : ℕ) → positive (odd d true q k l) ≡ false
unfolding odd
odd_signed d zero k l = refl
odd_signed d (suc q) k l = refl

top_field : (s : Bool) (t : ℕ) → positive (of_fields binary64 s 2047 t) ≡ false
unfolding of_fields
top_field s t = pick (eqb t 0)
  where
    pick : (b : Bool) → positive (cond b (inf s) nan) ≡ false
    pick true = refl
    pick false = refl

signed : (x t : ℕ) → positive (of_fields binary64 true x t) ≡ false
unfolding of_fields
signed zero t = odd_signed 53 t 0 (low binary64)
signed (suc x) t = pick (eqb (suc x) 2047) (eqb t 0)
  where
    pick : (a b : Bool) → positive (cond a (cond b (inf true) nan) (odd 53 true (2 ^ 52 + t) x (low binary64))) ≡ false
    pick true true = refl
    pick true false = refl
    pick false b = odd_signed 53 (2 ^ 52 + t) x (low binary64)

-- from the highest exponent field on no pattern is finite and above zero
pub none_above : (b : ℕ) → 2047 ≤ b / 2 ^ 52 → positive (of_bits binary64 b) ≡ false
none_above b h = go (leb (2 ^ 63) b) refl
  where
    go : (s : Bool) → leb (2 ^ 63) b ≡ s → positive (of_bits binary64 b) ≡ false
    go true e = ap positive (pattern b ∙ ap (λ (z : Bool). of_fields binary64 z (b % 2 ^ 63 / 2 ^ 52) (b % 2 ^ 52)) e) ∙ signed (b % 2 ^ 63 / 2 ^ 52) (b % 2 ^ 52)
    go false e =
        let l = leb-false (2 ^ 63) b e in
        ap positive (fields b 2047 (b % 2 ^ 52) (omega arith) (omega arith) (omega arith)) ∙ top_field false (b % 2 ^ 52)

-- such a pattern is no NaN's
pub no_nan : (b : ℕ) → b < 2047 * 2 ^ 52 → T (not (nan_bits binary64 b))
no_nan b h = let e : b % 2 ^ 63 ≡ b = omega arith in
    subst (λ (z : Bool). T (not z)) (sym (nan_bits_above binary64 b ∙ ap (ltb (2047 * 2 ^ 52)) e ∙ le-ltb (2047 * 2 ^ 52) b (omega arith))) tt
