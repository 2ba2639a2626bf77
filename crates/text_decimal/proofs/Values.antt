-- The value of the bits of a float, and its value in units of the last place. Assumes nothing.
use Prim.Native.Nat.{ℕ, zero, suc, ◌+◌, ◌-◌, ◌*◌, ◌/◌, ◌%◌, ◌^◌, ◌<◌, ◌≤◌}
use mathlib.Core.Bool.{Bool, true, false, cond, false≢true}
use mathlib.Core.Path.{◌≡◌, refl, sym, ap, subst, ◌∙◌}
use native.Mathlib.Nat.{mul_assoc, mul_comm, mul_right_comm, mul-le-mul, mul-le-mul_right, mul-lt-mul_of_pos_right, le_of_mul-le-mul_right}
use native.Mathlib.Nat.{lt_of_mul-lt-mul_right, le_trans, le_of_eq, lt_of_lt_of_le, lt_of_le_of_lt}
use native.Mathlib.Omega.{arith}
use lib.Dec.{leb, ltb, eqb, lit≤}
use lib.Pow.{pow-add, pow_pos, pow_mono}
use lib.Ieee.{Float, nan, inf, fin, binary64, low, up, down, odd, of_fields, of_bits}
use lib.Ieee.Fits.{down_pos}
use lib.Ieee.Exact.{HasValue, odd_sign}
use lib.Ieee.Scale.{finite}
use borrow.Author.Tests.{le-leb, lt-leb, leb-true, leb-false, ltb-true, ltb-false, ne_eqb}
use Rattle.text_decimal.specs.Nearest.{Nearest, nearest_to}
use Rattle.text_decimal.specs.Numeral.{units_in, Rounded, is_negative, is_large}
use Rattle.text_decimal.proofs.Rounding.{down_to, nearest_is, one_nearest, same_value}

-- ---- the law of the numeral: for any count of places

pub rounded : (unit : ℕ) (x : Float) → finite x ≡ true → Rounded unit x (units_in unit x)
unfolding units_in
rounded unit nan h = absurd (false≢true h)
rounded unit (inf s) h = absurd (false≢true h)
rounded unit (fin s m e) h = nearest_is (m * up e * unit) (down e) (down_pos e)

pub one_rounded : (unit : ℕ) (x : Float) (q r : ℕ) → Rounded unit x q → Rounded unit x r → q ≡ r
one_rounded unit nan q r a b = elim a [ ]
one_rounded unit (inf _) q r a b = elim a [ ]
one_rounded unit (fin s m e) q r a b = one_nearest (m * up e * unit) (down e) q r (down_pos e) a b

-- ---- by the value of a float as a fraction

units_of : (unit : ℕ) (x : Float) (s : Bool) (a c q : ℕ) → 0 < c → HasValue x s a c → Nearest (a * unit) c q → q ≡ units_in unit x
unfolding units_in
units_of unit nan s a c q C v n = elim v [ ]
units_of unit (inf _) s a c q C v n = elim v [ ]
units_of unit (fin t m e) s a c q C v n =
    let f : a * unit * down e ≡ m * up e * unit * c = mul_right_comm a unit (down e) ∙ ap (λ (z : ℕ). z * unit) (sym v.1) ∙ mul_right_comm (m * up e) c unit in
    one_nearest (m * up e * unit) (down e) q (nearest_to (m * up e * unit) (down e)) (down_pos e)
    (same_value (a * unit) c (m * up e * unit) (down e) q C (down_pos e) f n)
    (nearest_is (m * up e * unit) (down e) (down_pos e))

-- m·2^i / 2^l is m / 2^k
pub units_scaled : (unit : ℕ) (x : Float) (s : Bool) (m i k l q : ℕ) → i + k ≡ l → HasValue x s (m * 2 ^ i) (2 ^ l) → Nearest (m * unit) (2 ^ k) q → q ≡ units_in unit x
units_scaled unit x s m i k l q e v n =
    let f : m * unit * 2 ^ l ≡ m * 2 ^ i * unit * 2 ^ k =
    ap (λ (z : ℕ). m * unit * z) (ap (λ (z : ℕ). 2 ^ z) (sym e) ∙ pow-add 2 i k) ∙ sym (mul_assoc (m * unit) (2 ^ i) (2 ^ k)) ∙ ap (λ (z : ℕ). z * 2 ^ k) (mul_right_comm m unit (2 ^ i)) in
    units_of unit x s (m * 2 ^ i) (2 ^ l) q (pow_pos l) v (same_value (m * unit) (2 ^ k) (m * 2 ^ i * unit) (2 ^ l) q (pow_pos k) (pow_pos l) f n)

small_none : (m unit k : ℕ) → m < 2 ^ 53 → unit ≤ 1_000_000 → 77 ≤ k → Nearest (m * unit) (2 ^ k) 0
small_none m unit k h g l =
    let f : m ≤ 2 ^ 53 = omega arith in
    let p : m * unit ≤ 2 ^ 53 * 1_000_000 = mul-le-mul f g in
    let r : 2 ^ 77 ≤ 2 ^ k = pow_mono l in
    down_to (m * unit) (2 ^ k) 0 (m * unit) (omega arith) (omega arith)

-- ---- sizes of 10^12 and more

large_value : (x : Float) (s : Bool) (a c : ℕ) → 0 < c → HasValue x s a c → 1_000_000_000_000 * c ≤ a → is_large x ≡ true
unfolding is_large
large_value nan s a c C v h = elim v [ ]
large_value (inf _) s a c C v h = elim v [ ]
large_value (fin t m e) s a c C v h =
    le-leb (1_000_000_000_000 * down e) (m * up e)
    (le_of_mul-le-mul_right (le_trans (le_of_eq (mul_right_comm 1_000_000_000_000 (down e) c)) (le_trans (mul-le-mul_right (down e) h) (le_of_eq (sym v.1)))) C)

small_value : (x : Float) (s : Bool) (a c : ℕ) → 0 < c → HasValue x s a c → a < 1_000_000_000_000 * c → is_large x ≡ false
unfolding is_large
small_value nan s a c C v h = elim v [ ]
small_value (inf _) s a c C v h = elim v [ ]
small_value (fin t m e) s a c C v h =
    lt-leb (1_000_000_000_000 * down e) (m * up e)
    (lt_of_mul-lt-mul_right c (lt_of_le_of_lt (le_of_eq v.1) (lt_of_lt_of_le (mul-lt-mul_of_pos_right h (down_pos e)) (le_of_eq (mul_right_comm 1_000_000_000_000 c (down e))))))

module _ (x : Float) (s : Bool) (m i k l : ℕ) (e : i + k ≡ l) (v : HasValue x s (m * 2 ^ i) (2 ^ l)) where
  limit_at : 1_000_000_000_000 * 2 ^ l ≡ 1_000_000_000_000 * 2 ^ k * 2 ^ i
  limit_at = ap (λ (z : ℕ). 1_000_000_000_000 * z) (ap (λ (z : ℕ). 2 ^ z) (sym e) ∙ pow-add 2 i k ∙ mul_comm (2 ^ i) (2 ^ k)) ∙ sym (mul_assoc 1_000_000_000_000 (2 ^ k) (2 ^ i))

  small_scaled : m < 1_000_000_000_000 * 2 ^ k → is_large x ≡ false
  small_scaled h = small_value x s (m * 2 ^ i) (2 ^ l) (pow_pos l) v (lt_of_lt_of_le (mul-lt-mul_of_pos_right h (pow_pos i)) (le_of_eq (sym limit_at)))

  large_scaled : 1_000_000_000_000 * 2 ^ k ≤ m → is_large x ≡ true
  large_scaled h = large_value x s (m * 2 ^ i) (2 ^ l) (pow_pos l) v (le_trans (le_of_eq limit_at) (mul-le-mul_right (2 ^ i) h))

-- m·2^(j + l) / 2^l
large_whole : (x : Float) (s : Bool) (m i j l : ℕ) → i ≡ j + l → HasValue x s (m * 2 ^ i) (2 ^ l) → 1_000_000_000_000 ≤ m * 2 ^ j → is_large x ≡ true
large_whole x s m i j l e v h =
    let f : m * 2 ^ i ≡ m * 2 ^ j * 2 ^ l = ap (λ (z : ℕ). m * z) (ap (λ (z : ℕ). 2 ^ z) e ∙ pow-add 2 j l) ∙ sym (mul_assoc m (2 ^ j) (2 ^ l)) in
    large_value x s (m * 2 ^ i) (2 ^ l) (pow_pos l) v (le_trans (mul-le-mul_right (2 ^ l) h) (le_of_eq (sym f)))

-- ---- the fields of a pattern

pattern : (b : ℕ) → of_bits binary64 b ≡ of_fields binary64 (leb (2 ^ 63) b) (b % 2 ^ 63 / 2 ^ 52) (b % 2 ^ 52)
unfolding of_bits
pattern b = refl

subnormal : (s : Bool) (t : ℕ) → HasValue (of_fields binary64 s 0 t) s (t * 2 ^ 0) (2 ^ low binary64)
unfolding of_fields
subnormal s t = odd_sign 53 s t 0 (low binary64)

normal_at : (s : Bool) (i t : ℕ) → suc i < 2047 → of_fields binary64 s (suc i) t ≡ odd 53 s (2 ^ 52 + t) i (low binary64)
unfolding of_fields
normal_at s i t h = ap (λ (z : Bool). cond z (cond (eqb t 0) (inf s) nan) (odd 53 s (2 ^ 52 + t) i (low binary64))) (ne_eqb (suc i) 2047 (λ e. omega arith))

normal : (s : Bool) (i t : ℕ) → suc i < 2047 → HasValue (of_fields binary64 s (suc i) t) s ((2 ^ 52 + t) * 2 ^ i) (2 ^ low binary64)
normal s i t h = subst (λ (x : Float). HasValue x s ((2 ^ 52 + t) * 2 ^ i) (2 ^ low binary64)) (sym (normal_at s i t h)) (odd_sign 53 s (2 ^ 52 + t) i (low binary64))

top_large : (s : Bool) (t : ℕ) → is_large (of_fields binary64 s 2047 t) ≡ true
unfolding of_fields is_large
top_large s t = pick (eqb t 0)
  where
    pick : (b : Bool) → is_large (cond b (inf s) nan) ≡ true
    pick true = refl
    pick false = refl

below : (m k : ℕ) → m < 2 ^ 53 → 14 ≤ k → m < 1_000_000_000_000 * 2 ^ k
below m k h l = let p : 2 ^ 14 ≤ 2 ^ k = pow_mono l in omega arith

above : (t k : ℕ) → k ≤ 12 → 1_000_000_000_000 * 2 ^ k ≤ 2 ^ 52 + t
above t k l = let p : 2 ^ k ≤ 2 ^ 12 = pow_mono l in omega arith

far_above : (t j : ℕ) → 1_000_000_000_000 ≤ (2 ^ 52 + t) * 2 ^ j
far_above t j = let a : 1_000_000_000_000 ≤ 2 ^ 52 * 1 = omega arith in le_trans a (let b : 2 ^ 52 ≤ 2 ^ 52 + t = omega arith in mul-le-mul b (pow_pos j))

module _ (s : Bool) (b i t : ℕ) (e : b ≡ suc i * 2 ^ 52 + t) (h : t < 2 ^ 52) where
  at_limit : i ≡ 1061 → is_large (of_fields binary64 s (suc i) t) ≡ leb 0x426d_1a94_a200_0000 b
  at_limit f = go (leb 0x426d_1a94_a200_0000 b) refl
    where
      go : (c : Bool) → leb 0x426d_1a94_a200_0000 b ≡ c → is_large (of_fields binary64 s (suc i) t) ≡ c
      go true g = let l = leb-true 0x426d_1a94_a200_0000 b g in large_scaled (of_fields binary64 s (suc i) t) s (2 ^ 52 + t) i 13 (low binary64) (omega arith) (normal s i t (omega arith)) (omega arith)
      go false g =
          let l = leb-false 0x426d_1a94_a200_0000 b g in small_scaled (of_fields binary64 s (suc i) t) s (2 ^ 52 + t) i 13 (low binary64) (omega arith) (normal s i t (omega arith)) (omega arith)

  normal_large : suc i < 2047 → is_large (of_fields binary64 s (suc i) t) ≡ leb 0x426d_1a94_a200_0000 b
  normal_large l = go (ltb i 1061) refl (ltb i 1062) refl (ltb i 1074) refl
    where
      x : Float
      x = of_fields binary64 s (suc i) t

      v : HasValue x s ((2 ^ 52 + t) * 2 ^ i) (2 ^ low binary64)
      v = normal s i t l

      go : (p : Bool) → ltb i 1061 ≡ p → (q : Bool) → ltb i 1062 ≡ q → (r : Bool) → ltb i 1074 ≡ r → is_large x ≡ leb 0x426d_1a94_a200_0000 b
      go true p q₀ q r₀ r =
          let n = ltb-true i 1061 p in
          small_scaled x s (2 ^ 52 + t) i (1074 - i) (low binary64) (omega arith) v (below (2 ^ 52 + t) (1074 - i) (omega arith) (omega arith)) ∙ sym (lt-leb 0x426d_1a94_a200_0000 b (omega arith))
      go false p true q r₀ r = at_limit (omega (arith, ltb-false i 1061 p, ltb-true i 1062 q))
      go false p false q true r =
          let n = ltb-false i 1062 q in
          let m = ltb-true i 1074 r in
          large_scaled x s (2 ^ 52 + t) i (1074 - i) (low binary64) (omega arith) v (above t (1074 - i) (omega arith)) ∙ sym (le-leb 0x426d_1a94_a200_0000 b (omega arith))
      go false p false q false r =
          let n = ltb-false i 1074 r in
          large_whole x s (2 ^ 52 + t) i (i - 1074) (low binary64) (omega arith) v (far_above t (i - 1074)) ∙ sym (le-leb 0x426d_1a94_a200_0000 b (omega arith))

by_field : (s : Bool) (b f t : ℕ) → b ≡ f * 2 ^ 52 + t → t < 2 ^ 52 → f < 2048 → is_large (of_fields binary64 s f t) ≡ leb 0x426d_1a94_a200_0000 b
by_field s b zero t e h l =
    small_scaled (of_fields binary64 s 0 t) s t 0 (low binary64) (low binary64) refl (subnormal s t) (below t (low binary64) (omega arith) (lit≤ tt))
    ∙ sym (lt-leb 0x426d_1a94_a200_0000 b (omega arith))
by_field s b (suc i) t e h l = go (ltb (suc i) 2047) refl
  where
    top : (f : ℕ) → f ≡ 2047 → is_large (of_fields binary64 s f t) ≡ true
    top f g = subst (λ (z : ℕ). is_large (of_fields binary64 s z t) ≡ true) (sym g) (top_large s t)

    go : (c : Bool) → ltb (suc i) 2047 ≡ c → is_large (of_fields binary64 s (suc i) t) ≡ leb 0x426d_1a94_a200_0000 b
    go true g = normal_large s b i t e h (ltb-true (suc i) 2047 g)
    go false g = let n = ltb-false (suc i) 2047 g in top (suc i) (omega arith) ∙ sym (le-leb 0x426d_1a94_a200_0000 b (omega arith))

-- "a magnitude of 10^12 or more" by the bits without their sign
pub large_bits : (b : ℕ) → is_large (of_bits binary64 b) ≡ leb 0x426d_1a94_a200_0000 (b % 2 ^ 63)
large_bits b = ap is_large (pattern b) ∙ by_field (leb (2 ^ 63) b) (b % 2 ^ 63) (b % 2 ^ 63 / 2 ^ 52) (b % 2 ^ 52) (omega arith) (omega arith) (omega arith)

-- ---- units of the last place by the bits

none_in_field : (unit : ℕ) (s : Bool) (f t : ℕ) → unit ≤ 1_000_000 → t < 2 ^ 52 → f < 999 → 0 ≡ units_in unit (of_fields binary64 s f t)
none_in_field unit s zero t g h l = units_scaled unit (of_fields binary64 s 0 t) s t 0 (low binary64) (low binary64) 0 refl (subnormal s t) (small_none t unit (low binary64) (omega arith) g (lit≤ tt))
none_in_field unit s (suc i) t g h l =
    units_scaled unit (of_fields binary64 s (suc i) t) s (2 ^ 52 + t) i (1074 - i) (low binary64) 0 (omega arith) (normal s i t (omega arith))
    (small_none (2 ^ 52 + t) unit (1074 - i) (omega arith) g (omega arith))

pub no_units : (unit b : ℕ) → unit ≤ 1_000_000 → b % 2 ^ 63 / 2 ^ 52 < 999 → 0 ≡ units_in unit (of_bits binary64 b)
no_units unit b g l = none_in_field unit (leb (2 ^ 63) b) (b % 2 ^ 63 / 2 ^ 52) (b % 2 ^ 52) g (omega arith) l ∙ ap (units_in unit) (sym (pattern b))

scaled_in_field : (unit : ℕ) (s : Bool) (f t m q : ℕ) → m ≡ t + 2 ^ 52 → 999 ≤ f → f ≤ 1062 → Nearest (m * unit) (2 ^ 13 * 2 ^ (1062 - f)) q → q ≡ units_in unit (of_fields binary64 s f t)
scaled_in_field unit s zero t m q e a b n = absurd (omega arith)
scaled_in_field unit s (suc i) t m q e a b n =
    let k : 13 + (1062 - suc i) ≡ 1074 - i = omega arith in
    let p : 2 ^ 13 * 2 ^ (1062 - suc i) ≡ 2 ^ (1074 - i) = sym (pow-add 2 13 (1062 - suc i)) ∙ ap (λ (z : ℕ). 2 ^ z) k in
    let w : m ≡ 2 ^ 52 + t = omega arith in
    units_scaled unit (of_fields binary64 s (suc i) t) s (2 ^ 52 + t) i (1074 - i) (low binary64) q (omega arith) (normal s i t (omega arith)) (rw (p, w) at n)

pub some_units : (unit b m q : ℕ) → m ≡ b % 2 ^ 52 + 2 ^ 52 → 999 ≤ b % 2 ^ 63 / 2 ^ 52 → b % 2 ^ 63 / 2 ^ 52 ≤ 1062
    → Nearest (m * unit) (2 ^ 13 * 2 ^ (1062 - b % 2 ^ 63 / 2 ^ 52)) q → q ≡ units_in unit (of_bits binary64 b)
some_units unit b m q e g l n = scaled_in_field unit (leb (2 ^ 63) b) (b % 2 ^ 63 / 2 ^ 52) (b % 2 ^ 52) m q e g l n ∙ ap (units_in unit) (sym (pattern b))

-- below 10^12 the field is at most 1062
pub field_most : (b : ℕ) → is_large (of_bits binary64 b) ≡ false → b % 2 ^ 63 / 2 ^ 52 ≤ 1062
field_most b h = let l = leb-false 0x426d_1a94_a200_0000 (b % 2 ^ 63) (sym (large_bits b) ∙ h) in omega arith

-- ---- the sign by the bits

value_sign : (x : Float) (s : Bool) (a c : ℕ) → HasValue x s a c → is_negative x ≡ s
value_sign nan s a c v = elim v [ ]
value_sign (inf _) s a c v = elim v [ ]
value_sign (fin t m e) s a c v = v.0

pub sign_bits : (b : ℕ) → is_large (of_bits binary64 b) ≡ false → is_negative (of_bits binary64 b) ≡ leb (2 ^ 63) b
sign_bits b h = ap is_negative (pattern b) ∙ go (b % 2 ^ 63 / 2 ^ 52) (field_most b h)
  where
    go : (f : ℕ) → f ≤ 1062 → is_negative (of_fields binary64 (leb (2 ^ 63) b) f (b % 2 ^ 52)) ≡ leb (2 ^ 63) b
    go zero l = value_sign (of_fields binary64 (leb (2 ^ 63) b) 0 (b % 2 ^ 52)) (leb (2 ^ 63) b) (b % 2 ^ 52 * 2 ^ 0) (2 ^ low binary64) (subnormal (leb (2 ^ 63) b) (b % 2 ^ 52))
    go (suc i) l =
        value_sign (of_fields binary64 (leb (2 ^ 63) b) (suc i) (b % 2 ^ 52)) (leb (2 ^ 63) b) ((2 ^ 52 + b % 2 ^ 52) * 2 ^ i) (2 ^ low binary64) (normal (leb (2 ^ 63) b) i (b % 2 ^ 52) (omega arith))
