-- Document 01's rule from the fourth term's estimate: the sum of the four terms is rounded once. Assumes nothing.
use mathlib.Core.Path.{◌≡◌, ap, ◌∙◌, sym}
use Prim.Native.Nat.{ℕ, ◌+◌, ◌-◌, ◌*◌, ◌/◌, ◌%◌, ◌^◌, ◌≤◌, ◌<◌}
use native.Mathlib.Nat.{div-lt_iff_lt-mul, mul-le-mul}
use native.Mathlib.Omega.{arith}
use Rattle.base.specs.Limits.{last_day, circle}
use Rattle.hour_rounding.specs.Fraction.{into_circle}
use Rattle.hour_rounding.proofs.Rounding.{rounded_once}
use Rattle.hour_old.specs.declared.Estimate.{Estimate}
use Rattle.hour_old.specs.Division.{EstimateOf}
use Rattle.hour_old.specs.DocumentOne.{slowing, denominator, numerator, document_one}

abbrev fourth : ℕ → ℕ
fourth t = 417_807_417 * 10 ^ 11 * t

abbrev first_two : ℕ → ℕ
first_two d = 1_000_755_426_000 + 9_856_473_460 * d

abbrev third : ℕ → ℕ
third d = 29_015 * (d * d)

pub fraction_below : (d : ℕ) {rest f : ℕ} → rest < 3 * d → f ≡ rest * 10 ^ 7 / d → f < 30_000_000
fraction_below d {rest} h e = let some : 0 < d = omega arith in rw e ((div-lt_iff_lt-mul some).1 (omega arith))

pub square_below : (d : ℕ) → d ≤ last_day → d * d ≤ 1_334_002_576
square_below d h = mul-le-mul h h

same_sum : (d t quotient over rest whole : ℕ)
    → whole + over ≡ first_two d + quotient
    → fourth t + over * slowing d ≡ quotient * slowing d + rest
    → whole * denominator d + third d * slowing d + rest * 10 ^ 7 ≡ numerator d t
same_sum d t quotient over rest whole e exact = omega (arith, ap (λ (x : ℕ). x * slowing d) e)

pub angle_of : (d t : ℕ) {turned : Estimate} {fraction : ℕ}
    → EstimateOf (fourth t) (slowing d) turned → fraction ≡ turned.rest * 10 ^ 7 / slowing d
    → (first_two d + turned.quotient - turned.over + (third d + fraction) / 10_000_000) % circle ≡ into_circle (document_one d t)
angle_of d t {turned} near f =
    rw f
    (ap (λ (n : ℕ). n % circle)
    (sym (rounded_once (first_two d + turned.quotient - turned.over) (third d) turned.rest (10 ^ 7) (slowing d) (omega arith) (omega arith))
    ∙ ap (λ (n : ℕ). n / denominator d) (same_sum d t turned.quotient turned.over turned.rest _ whole near.exact)))
  where
    whole : first_two d + turned.quotient - turned.over + turned.over ≡ first_two d + turned.quotient
    whole = omega arith
