-- Two floats that fit and have the same value as a fraction are equal. Assumes nothing.
use lib.Ieee.{nan, inf}
use mathlib.Core.Path.{◌≡◌, sym, ap, ◌∙◌}
use mathlib.Core.Bool.{Bool, cond, ◌&&◌}
use Prim.Native.Nat.{ℕ, suc, ◌+◌, ◌-◌, ◌*◌, ◌/◌, ◌%◌, ◌^◌, ◌≤◌, ◌<◌}
use native.Mathlib.Nat.{mul_right_comm, eq_of_mul-eq-mul_right}
use lib.Dec.{T, eqb, leb, ltb, ltb→lt, leb→le}
use lib.IntN.{ℤ}
use lib.Ieee.{Float, fin, Format, prec, emax, low, hid, top, up, down, size, fits, to_bits, of_bits}
use lib.Ieee.Fits.{down_pos, and_l, and_r}
use lib.Ieee.Bits.{of_bits-to_bits}
use lib.Ieee.Exact.{HasValue}
use lib.Ieee.Nearest.{div_same}

-- the bits of n of the format's smallest values
bits_at : Format → Bool → ℕ → ℕ
bits_at f s n = let k = size n - prec f in cond s (top f) 0 + k * hid f + n / 2 ^ k

to_bits_at : (f : Format) (x : Float) (s : Bool) (a c : ℕ) → 0 < c → HasValue x s a c → to_bits f x ≡ bits_at f s (a * 2 ^ low f / c)
unfolding to_bits bits_at
to_bits_at f nan s a c C v = elim v [ ]
to_bits_at f (inf _) s a c C v = elim v [ ]
to_bits_at f (fin t m e) s a c C v =
    ap (λ (b : Bool). bits_at f b (m * up e * 2 ^ low f / down e)) v.0
    ∙ ap (bits_at f s) (div_same (m * up e * 2 ^ low f) (down e) (a * 2 ^ low f) c (down_pos e) C
    (mul_right_comm (m * up e) (2 ^ low f) c ∙ ap (λ (z : ℕ). z * 2 ^ low f) v.1 ∙ mul_right_comm a (down e) (2 ^ low f)))

-- two floats that fit and are equal fractions of the same sign are the same float
pub value_unique : (f : Format) (x y : Float) (s : Bool) (a c b d : ℕ) → T (fits f x) → T (fits f y) → 0 < c → 0 < d → HasValue x s a c → HasValue y s b d → a * d ≡ b * c → x ≡ y
value_unique f x y s a c b d p q C D v w e =
    sym (of_bits-to_bits f x p)
    ∙ ap (of_bits f) (to_bits_at f x s a c C v
    ∙ ap (bits_at f s) (div_same (a * 2 ^ low f) c (b * 2 ^ low f) d C D (mul_right_comm a (2 ^ low f) d ∙ ap (λ (z : ℕ). z * 2 ^ low f) e ∙ mul_right_comm b c (2 ^ low f)))
    ∙ sym (to_bits_at f y s b d D w))
    ∙ of_bits-to_bits f y q

-- two fractions that one float equals
pub value_cross : (x : Float) (s : Bool) (a c b d : ℕ) → HasValue x s a c → HasValue x s b d → a * d ≡ b * c
value_cross nan s a c b d v w = elim v [ ]
value_cross (inf _) s a c b d v w = elim v [ ]
value_cross (fin t m e) s a c b d v w =
    eq_of_mul-eq-mul_right (down e) (down_pos e) (a * d) (b * c)
    (mul_right_comm a d (down e) ∙ ap (λ (z : ℕ). z * d) (sym v.1) ∙ mul_right_comm (m * up e) c d ∙ ap (λ (z : ℕ). z * c) w.1 ∙ mul_right_comm b (down e) c)

-- a float's value by another fraction
pub rescale : (x : Float) (s : Bool) (a c b d : ℕ) → 0 < c → a * d ≡ b * c → HasValue x s a c → HasValue x s b d
rescale nan s a c b d C h v = elim v [ ]
rescale (inf _) s a c b d C h v = elim v [ ]
rescale (fin t m e) s a c b d C h v = (
  v.0,
  eq_of_mul-eq-mul_right c C (m * up e * d) (b * down e)
      (mul_right_comm (m * up e) d c ∙ ap (λ (z : ℕ). z * d) v.1 ∙ mul_right_comm a (down e) d ∙ ap (λ (z : ℕ). z * down e) h ∙ mul_right_comm b c (down e)),
)

-- what `fits` says of a number that is not zero
pub record Fitting (f : Format) (m : ℕ) (e : ℤ) : Type 0 where
  pub digits : m < 2 ^ prec f
  pub least : down e ≤ 2 ^ low f
  pub most : m * up e < 2 ^ suc (emax f) * down e

pub fits_says : (f : Format) (s : Bool) (m : ℕ) (e : ℤ) → T (fits f (fin s (suc m) e)) → Fitting f (suc m) e
unfolding fits
fits_says f s m e h =
    let A = eqb (suc m % 2) 1 in
    let B = ltb (suc m) (2 ^ prec f) in
    let C = leb (down e) (2 ^ low f) in
    let D = ltb (suc m * up e) (2 ^ suc (emax f) * down e) in
    record {
      digits = ltb→lt (suc m) (2 ^ prec f) (and_r A B (and_l (A && B) C (and_l (A && B && C) D h)));
      least = leb→le (down e) (2 ^ low f) (and_r (A && B) C (and_l (A && B && C) D h));
      most = ltb→lt (suc m * up e) (2 ^ suc (emax f) * down e) (and_r (A && B && C) D h);
    }
