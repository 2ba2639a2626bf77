-- Sign and value determine a float, and a float minus zero is itself. Both are proved for any format first, so that its powers of two stay
-- names. Assumes nothing.
use mathlib.Core.Path.{◌≡◌, refl, sym, ap, ◌∙◌, subst}
use mathlib.Core.Bool.{Bool, true, false, ◌&&◌, cond}
use Prim.Native.Nat.{ℕ, zero, suc, ◌+◌, ◌-◌, ◌*◌, ◌/◌, ◌%◌, ◌^◌, ◌≤◌, ◌<◌}
use native.Mathlib.Nat.{le_trans, le_of_eq, le_of_suc-le-suc, lt_of_not-le, lt_irrefl, zero-mul, one-mul, mul-one, mul_comm, mul_assoc}
use native.Mathlib.Nat.{mul_right_comm, mul-pos, mul-le-mul_right, mul-lt-mul_of_pos_right, lt_of_mul-lt-mul_right, add-zero, sub-zero}
use native.Mathlib.Omega.{arith}
use lib.IntN.{ℤ, pos, negsuc}
use lib.Dec.{T, leb, ltb, eqb, eqb→eq, ltb→lt, leb→le, not_T}
use lib.Pow.{pow-add, pow_pos, pow-lt}
use lib.Ieee.{Float, nan, inf, fin, Format, binary64, prec, emax, low, up, down, size, round, neg, sum, add, sub, fits, hid, top, of_bits, to_bits}
use lib.Ieee.Bits.{of_bits-to_bits, is_false}
use lib.Ieee.Digits.{back}
use lib.Ieee.Exact.{HasValue, round_exact}
use lib.Ieee.Fits.{up_pos, down_pos, and_l, and_r, round-fits}
use lib.Ieee.Nearest.{div_same}
use Rattle.base.specs.Floats.{◌⊖◌, zero64}

-- ---- one float for a sign and a value

-- the bits of n smallest values with the sign s
abbrev bits_at : Format → Bool → ℕ → ℕ
bits_at f s n = cond s (top f) 0 + (size n - prec f) * hid f + n / 2 ^ (size n - prec f)

-- a finite float's bits are those of its count of smallest values
fin_bits : (f : Format) (s : Bool) (m : ℕ) (e : ℤ) → to_bits f (fin s m e) ≡ bits_at f s (m * up e * 2 ^ low f / down e)
unfolding to_bits
fin_bits f s m e = refl

-- equal fractions are as many smallest values
units_same : (l x d a c : ℕ) → 0 < d → 0 < c → x * c ≡ a * d → x * l / d ≡ a * l / c
units_same l x d a c D C h = div_same (x * l) d (a * l) c D C (mul_right_comm x l c ∙ ap (λ (z : ℕ). z * l) h ∙ mul_right_comm a d l)

-- so sign and fraction determine the bits of a value
value_bits : (f : Format) (x : Float) (s : Bool) (a c : ℕ) → 0 < c → HasValue x s a c → to_bits f x ≡ bits_at f s (a * 2 ^ low f / c)
value_bits f nan s a c C v = absurd v
value_bits f (inf t) s a c C v = absurd v
value_bits f (fin t m e) s a c C v =
    fin_bits f t m e
    ∙ ap (λ (b : Bool). bits_at f b (m * up e * 2 ^ low f / down e)) v.0
    ∙ ap (bits_at f s) (units_same (2 ^ low f) (m * up e) (down e) a c (down_pos e) C v.1)

-- in any format: two floats that fit, of one sign and one value, are one
pub one_float : (f : Format) (x y : Float) (s : Bool) (a c : ℕ) → 0 < c → T (fits f x) → T (fits f y) → HasValue x s a c → HasValue y s a c → x ≡ y
one_float f x y s a c C p q v w =
    sym (of_bits-to_bits f x p)
    ∙ ap (of_bits f) (value_bits f x s a c C v ∙ sym (value_bits f y s a c C w))
    ∙ of_bits-to_bits f y q

-- the same in binary64
pub unique : (x y : Float) (s : Bool) (a c : ℕ) → 0 < c → T (fits binary64 x) → T (fits binary64 y) → HasValue x s a c → HasValue y s a c → x ≡ y
unique = one_float binary64

-- ---- a float that fits is what its own fraction rounds to

-- what fitting says of a finite float, zeros included
record Room (f : Format) (m : ℕ) (e : ℤ) : Type 0 where
  digits : m < 2 ^ prec f
  deep : down e ≤ 2 ^ low f
  below : m * up e < 2 ^ suc (emax f) * down e

-- if u·d = 1, d is at most any number above 0
one_deep : (u d p : ℕ) → 0 < u → 0 < p → u * d ≡ 1 → d ≤ p
one_deep u d p U P h = le_trans (le_of_eq (sym (one-mul d))) (le_trans (mul-le-mul_right d U) (le_trans (le_of_eq h) P))

-- from the test `fits`
room : (f : Format) (s : Bool) (m : ℕ) (e : ℤ) → T (fits f (fin s m e)) → Room f m e
unfolding fits
room f s zero e t =
    record {
      digits = pow_pos (prec f);
      deep = one_deep (up e) (down e) (2 ^ low f) (up_pos e) (pow_pos (low f)) (eqb→eq (up e * down e) 1 t);
      below = le_trans (le_of_eq (ap suc (zero-mul (up e)))) (mul-pos (pow_pos (suc (emax f))) (down_pos e));
    }
room f s (suc m) e t =
    let A = eqb (suc m % 2) 1 in
    let B = ltb (suc m) (2 ^ prec f) in
    let C = leb (down e) (2 ^ low f) in
    let D = ltb (suc m * up e) (2 ^ suc (emax f) * down e) in
    let abc = and_l (A && B && C) D t in
    record {
      digits = ltb→lt (suc m) (2 ^ prec f) (and_r A B (and_l (A && B) C abc));
      deep = leb→le (down e) (2 ^ low f) (and_r (A && B) C abc);
      below = ltb→lt (suc m * up e) (2 ^ suc (emax f) * down e) (and_r (A && B && C) D t);
    }

-- powers of two are in the order of their exponents
deep_is : (a l : ℕ) → 2 ^ a ≤ 2 ^ l → a ≤ l
deep_is a l h = le_of_suc-le-suc (lt_of_not-le (λ (g : suc l ≤ a). lt_irrefl (2 ^ l) (le_trans (pow-lt g) h)))

-- 2 ^ e is 2 ^ places smallest values
record Placed (l : ℕ) (e : ℤ) : Type 0 where
  places : ℕ
  is : up e * 2 ^ l ≡ 2 ^ places * down e

-- if the format reaches as far down as 2 ^ e
placed : (l : ℕ) (e : ℤ) → down e ≤ 2 ^ l → Placed l e
placed l (pos k) h = record { places = k + l; is = sym (pow-add 2 k l) ∙ sym (mul-one (2 ^ (k + l))) }
placed l (negsuc k) h =
    record {
      places = l - suc k;
      is = one-mul (2 ^ l) ∙ ap (λ (z : ℕ). 2 ^ z) (sym (back l (suc k) (deep_is (suc k) l h))) ∙ pow-add 2 (l - suc k) (suc k);
    }

-- the end of the range in smallest values
top_same : (l t d : ℕ) → 2 ^ t * d * 2 ^ l ≡ 2 ^ (l + t) * d
top_same l t d = mul_right_comm (2 ^ t) d (2 ^ l) ∙ ap (λ (z : ℕ). z * d) (mul_comm (2 ^ t) (2 ^ l) ∙ sym (pow-add 2 l t))

-- rounding such a float's own fraction keeps the value
own_value : (f : Format) (s : Bool) (m : ℕ) (e : ℤ) → Room f m e → HasValue (round f s (m * up e) (down e)) s (m * up e) (down e)
own_value f s m e r =
    let l = low f in
    let p = placed l e r.deep in
    let n = m * 2 ^ p.places in
    let same : m * up e * 2 ^ l ≡ n * down e = mul_assoc m (up e) (2 ^ l) ∙ ap (λ (z : ℕ). m * z) p.is ∙ sym (mul_assoc m (2 ^ p.places) (down e)) in
    let under : n * down e < 2 ^ (l + suc (emax f)) * down e =
    subst (λ (z : ℕ). z < 2 ^ (l + suc (emax f)) * down e) same
    (subst (λ (z : ℕ). m * up e * 2 ^ l < z) (top_same l (suc (emax f)) (down e)) (mul-lt-mul_of_pos_right r.below (pow_pos l))) in
    round_exact f s (m * up e) (down e) m p.places (down_pos e) r.digits (lt_of_mul-lt-mul_right (down e) under) same

-- and gives the float back
pub own_round : (f : Format) (s : Bool) (m : ℕ) (e : ℤ) → T (fits f (fin s m e)) → round f s (m * up e) (down e) ≡ fin s m e
own_round f s m e t =
    one_float f (round f s (m * up e) (down e)) (fin s m e) s (m * up e) (down e) (down_pos e) (round-fits f s (m * up e) (down e)) t
    (own_value f s m e (room f s m e t)) (refl, refl)

-- ---- minus zero

-- nothing is below 0
none_below : (a : ℕ) → ltb a 0 ≡ false
none_below a = is_false (ltb a 0) (not_T (ltb a 0) (λ t. let h = ltb→lt a 0 t in absurd (omega arith)))

-- -0 added to ±a / c
sum_none : (f : Format) (s : Bool) (a c : ℕ) → sum f s a true 0 c ≡ round f s a c
unfolding sum
sum_none f true a c = ap (λ (z : ℕ). round f true z c) (add-zero a)
sum_none f false a c = ap (λ (b : Bool). cond b (round f true (0 - a) c) (round f false (a - 0) c)) (none_below a) ∙ ap (λ (z : ℕ). round f false z c) (sub-zero a)

-- the fraction as `sum` has it
sum_own : (f : Format) (s : Bool) (m : ℕ) (e : ℤ) → sum f s (m * up e * 1) true (0 * 1 * down e) (down e * 1) ≡ round f s (m * up e) (down e)
sum_own f s m e =
    ap (λ (z : ℕ). sum f s z true (0 * 1 * down e) (down e * 1)) (mul-one (m * up e))
    ∙ ap (λ (z : ℕ). sum f s (m * up e) true z (down e * 1)) (zero-mul (down e))
    ∙ ap (λ (z : ℕ). sum f s (m * up e) true 0 z) (mul-one (down e))
    ∙ sum_none f s (m * up e) (down e)

-- in any format: NaN, infinities, both zeros and all others
pub less_none : (f : Format) (x : Float) → T (fits f x) → sub f x (fin false 0 (pos 0)) ≡ x
unfolding sub add neg
less_none f nan t = refl
less_none f (inf s) t = refl
less_none f (fin s m e) t = sum_own f s m e ∙ own_round f s m e t

-- +0.0 as data
zero_is : zero64 ≡ fin false 0 (pos 0)
unfolding of_bits
zero_is = refl

-- x - 0.0 is x, for every x that is a float
pub less_zero : (x : Float) → T (fits binary64 x) → x ⊖ zero64 ≡ x
less_zero x t = ap (λ (z : Float). x ⊖ z) zero_is ∙ less_none binary64 x t
