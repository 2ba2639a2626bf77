-- Range and rounding, once over both rules. Assumes nothing.
use mathlib.Core.Bool.{Bool, true, false}
use mathlib.Core.Path.{◌≡◌, refl}
use Prim.Native.Nat.{ℕ, ◌/◌, ◌%◌, ◌<◌}
use native.Mathlib.Omega.{arith}
use Rattle.base.specs.Choice.{if◌then◌otherwise◌, ◌=?◌}
use Rattle.base.specs.Limits.{circle}
use Rattle.hour_1982.specs.Sidereal.{sidereal1982}
use Rattle.hour_old.specs.DocumentOne.{denominator, numerator, document_one}
use Rattle.hour.specs.Hour.{rule_of, hour_angle, sidereal_angle}
use Rattle.hour_rounding.proofs.Rounding.{Rounded, rounded, into_circle_below}

denominator_above : (rule d t : ℕ) → 0 < (rule_of rule d t).denominator
denominator_above rule d t = by (rule =? 0)
  where
    by : (b : Bool) → 0 < (if b then document_one d t otherwise sidereal1982 d t).denominator
    by true = omega arith
    by false = omega arith

-- the angle is the rule's exact value, rounded down once and brought into one circle
pub angle_rounded : (rule d t : ℕ) → Rounded (rule_of rule d t) (sidereal_angle rule d t)
unfolding sidereal_angle
angle_rounded rule d t = rounded (rule_of rule d t) (denominator_above rule d t)

-- rule 0 is document 01's value as it was before there were two: no old answer moves
pub as_before : (d t : ℕ) → hour_angle d t ≡ numerator d t / denominator d % circle
unfolding sidereal_angle
as_before d t = refl

pub angle_below : (rule d t : ℕ) → sidereal_angle rule d t < circle
unfolding sidereal_angle
angle_below rule d t = into_circle_below (rule_of rule d t)
