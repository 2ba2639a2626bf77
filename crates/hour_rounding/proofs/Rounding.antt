-- Rounding down and reducing into one circle, over any numerator, negative ones too, and any denominator above 0. Assumes nothing.
use mathlib.Core.Path.{◌≡◌, refl, ap, sym, ◌∙◌}
use Prim.Native.Nat.{ℕ, suc, ◌+◌, ◌-◌, ◌*◌, ◌/◌, ◌%◌, ◌<◌}
use lib.IntN.{ℤ, pos, negsuc, ◌+ℤ◌, ◌*ℤ◌}
use native.Mathlib.Nat.{div-add-mod', mul-add-div_right, mul-add-mod_self_right, add-mul-div_right, add-mul-mod_self_right, mod-eq_of_lt}
use native.Mathlib.Nat.{div-eq_of_lt-le, div-lt_iff_lt-mul, div-div-eq-div-mul, mod-lt, mul_comm}
use native.Mathlib.Omega.{arith}
use Rattle.base.specs.Limits.{circle}
use Rattle.hour_rounding.specs.Fraction.{Fraction, floor, rest, into_circle}
use Rattle.hour_rounding.proofs.Less.{Less, less_pos, less_add, less_mul, less_as, less_one}

rest_below : (z : ℤ) (m : ℕ) → 0 < m → rest z m < m
rest_below (pos n) m h = mod-lt n h
rest_below (negsuc n) m h = omega arith

-- the answer's range
pub into_circle_below : (f : Fraction) → into_circle f < circle
into_circle_below f = rest_below (floor f.numerator f.denominator) circle (omega arith)

-- r is the value rounded down and brought into one circle: with whole circles and a fraction of one part it is the value
pub record Rounded (f : Fraction) (r : ℕ) : Type 0 where
  pub circles : ℤ
  pub fraction : ℕ
  pub in_circle : r < circle
  pub below_one : fraction < f.denominator
  pub exact : (circles *ℤ pos circle +ℤ pos r) *ℤ pos f.denominator +ℤ pos fraction ≡ f.numerator

-- a whole number in m's and a rest
divided_up : (n m : ℕ) → 0 < m → (n / m * m + n % m ≡ n) × (n % m < m)
divided_up n m h = (div-add-mod' n m, mod-lt n h)

-- the round trip, by cases of the sign
exactly : (z : ℤ) (d c : ℕ) → 0 < d → 0 < c
    → (q : ℤ) (f : ℕ) → (q ≡ floor (floor z d) c) → (f ≡ rest z d)
    → (q *ℤ pos c +ℤ pos (rest (floor z d) c)) *ℤ pos d +ℤ pos f ≡ z
exactly (pos n) d c dp cp q f e g = rw (e, g) (ap pos (omega (arith, ap (λ (x : ℕ). x * d) (div-add-mod' (n / d) c), div-add-mod' n d)))
exactly (negsuc n) d c dp cp q f e g =
    rw (e, g)
    (less_one
    (less_as 0 (suc n) tally
    (less_add (less_mul (less_add (less_mul below (less_pos c)) (less_pos (c - 1 - n / d % c))) (less_pos d)) (less_pos (d - 1 - n % d))))
    (record { apart = omega arith }))
  where
    below : Less (negsuc (n / d / c)) 0 (suc (n / d / c))
    below = record { apart = omega arith }

    left : c - 1 - n / d % c + n / d % c + 1 ≡ c
    left = omega (arith, mod-lt (n / d) cp)

    gone : d - 1 - n % d + n % d + 1 ≡ d
    gone = omega (arith, mod-lt n dp)

    tally : ((0 * c + suc (n / d / c) * 0 + (c - 1 - n / d % c)) * d + (0 * 0 + suc (n / d / c) * c + 0) * 0 + (d - 1 - n % d)) + suc n
        ≡ 0 + ((0 * c + suc (n / d / c) * 0 + (c - 1 - n / d % c)) * 0 + (0 * 0 + suc (n / d / c) * c + 0) * d + 0)
    tally = omega (arith, ap (λ (x : ℕ). x * d) left, ap (λ (x : ℕ). x * d) (div-add-mod' (n / d) c), div-add-mod' n d, gone)

-- range and rounding, once for every fraction
pub rounded : (f : Fraction) → 0 < f.denominator → Rounded f (into_circle f)
rounded f h =
    record {
      circles = floor (floor f.numerator f.denominator) circle;
      fraction = rest f.numerator f.denominator;
      in_circle = into_circle_below f;
      below_one = rest_below f.numerator f.denominator h;
      exact = exactly f.numerator f.denominator circle h (omega arith) _ _ refl refl;
    }

-- a digit's fraction is carried into the next one
pub carried : (n m v k : ℕ) → 0 < v → (n * v + m) / (v * k) ≡ (n + m / v) / k
carried n m v k h = sym (div-div-eq-div-mul (n * v + m) v k) ∙ ap (λ (x : ℕ). x / k) (mul-add-div_right h n m)

-- whole + n/m + x/d rounded down once, only by divisions by d and by m: the last one is carried in units of 1/m
pub rounded_once : (whole n x m d : ℕ) → 0 < m → 0 < d → (whole * (m * d) + n * d + x * m) / (m * d) ≡ whole + (n + x * m / d) / m
rounded_once whole n x m d m-pos d-pos =
    ap (λ (y : ℕ). (whole * (m * d) + n * d + x * m) / y) (mul_comm m d)
    ∙ ap (λ (y : ℕ). y / (d * m)) regroup
    ∙ carried (whole * m + n) (x * m) d m d-pos
    ∙ ap (λ (y : ℕ). y / m) next
    ∙ mul-add-div_right m-pos whole (n + x * m / d)
  where
    regroup : whole * (m * d) + n * d + x * m ≡ (whole * m + n) * d + x * m
    regroup = omega arith

    next : whole * m + n + x * m / d ≡ whole * m + (n + x * m / d)
    next = omega arith

-- whole circles added to a number below 0, in natural numbers
module _ (m n k c d : ℕ) (cp : 0 < c) (dp : 0 < d) (h : n + suc m ≡ k * (c * d)) where
  abbrev q : ℕ
  q = m / d

  abbrev j : ℕ
  j = k * c - 1 - q

  abbrev i : ℕ
  i = k - 1 - q / c

  few : q < k * c
  few = (div-lt_iff_lt-mul dp).1 (omega (arith, h))

  up : j + 1 + q ≡ k * c
  up = omega (arith, few)

  quotient : n / d ≡ j
  quotient = div-eq_of_lt-le d
      (omega (arith, h, ap (λ (x : ℕ). x * d) up, div-add-mod' m d, mod-lt m dp))
      (omega (arith, h, ap (λ (x : ℕ). x * d) up, div-add-mod' m d, mod-lt m dp))

  up_circle : i + 1 + q / c ≡ k
  up_circle = let less : q / c < k = (div-lt_iff_lt-mul cp).1 few in omega (arith, less)

  whole : j ≡ i * c + (c - 1 - q % c)
  whole = omega (arith, up, ap (λ (x : ℕ). x * c) up_circle, div-add-mod' q c, mod-lt q cp)

  below_zero_lem : c - 1 - m / d % c ≡ n / d % c
  below_zero_lem =
      sym
      (ap (λ (x : ℕ). x % c) (quotient ∙ whole)
      ∙ mul-add-mod_self_right i c (c - 1 - q % c)
      ∙ mod-eq_of_lt (let small : c - 1 - q % c < c = omega arith in small))

-- whole circles added before the rounding change nothing
pub circles_added : (z : ℤ) (n k c d : ℕ) → 0 < c → 0 < d → Less z n (k * (c * d)) → rest (floor z d) c ≡ n / d % c
circles_added (pos m) n k c d cp dp h =
    sym
    (ap (λ (x : ℕ). x / d % c) more ∙ ap (λ (x : ℕ). x % c) (add-mul-div_right m (k * c) dp) ∙ add-mul-mod_self_right (m / d) k c)
  where
    more : n ≡ m + k * c * d
    more = omega (arith, h.apart)
circles_added (negsuc m) n k c d cp dp h = below_zero_lem m n k c d cp dp h.apart
