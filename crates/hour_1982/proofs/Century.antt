-- The 1982 rule within 64 bits: the digits of base span spell what the document says, and the carries round it down once. Assumes nothing.
use mathlib.Core.Path.{◌≡◌, refl, ap, sym, ◌∙◌}
use Prim.Native.Nat.{ℕ, ◌+◌, ◌-◌, ◌*◌, ◌/◌, ◌%◌, ◌^◌, ◌≤◌, ◌<◌}
use lib.IntN.{ℤ, pos}
use native.Mathlib.Nat.{div-add-mod', mul-le-mul, mod-lt, add_assoc}
use native.Mathlib.Omega.{arith}
use Rattle.base.specs.Limits.{circle}
use Rattle.hour_1982.specs.declared.Spans.{Spans}
use Rattle.hour_1982.specs.declared.DaySpans.{DaySpans}
use Rattle.hour_1982.specs.Century.{Spelled, RateSpelled, DaySpelled, spelled, day_spelled, rate_from, seconds_from}
use Rattle.hour_1982.specs.Sidereal.{span, centuries, seconds_of, rate_of, seconds_sum, sidereal1982}
use Rattle.hour_rounding.specs.Fraction.{into_circle}
use Rattle.hour_rounding.proofs.Less.{Less, less_pos, less_add, less_minus, less_mul, less_as}
use Rattle.hour_rounding.proofs.Rounding.{carried, circles_added}

-- T is s/span - 1
less_centuries : (d : ℕ) → Less (centuries d) (2 * d + 36_525) span
less_centuries d = less_as (2 * d + 36_525) span (omega arith) (less_minus (less_pos (2 * d)) (less_pos 36_525))

rate_identity : (s w : ℕ) → w + 59 * s ≡ 590_178 * span
    → 1_002737909350795 * 10 * span ^ 2 + (0_000000000059006 * 10 * span * s + 0 * span)
    + (0_0000000000000059 * (s * span + span * s) + 0 * (s * s + span * span)) + 0
    ≡ 10_027_379_092_917_831 * span ^ 2 + s * w
    + (0 + (0_000000000059006 * 10 * span * span + 0 * s) + (0_0000000000000059 * (s * s + span * span) + 0 * (s * span + span * s)))
rate_identity s w e = omega (arith, ap (λ (x : ℕ). s * x) e)

-- the rate of T is the whole number that the code counts from
less_rate : {u : ℤ} (s : ℕ) → s ≤ 109_573 → Less u s span → Less (rate_of u) (rate_from s) 0
unfolding rate_of rate_from
less_rate s small h =
    less_as (10_027_379_092_917_831 * span ^ 2 + s * (590_178 * span - 59 * s)) 0 (rate_identity s (590_178 * span - 59 * s) (omega arith))
    (less_minus
    (less_add (less_pos (1_002737909350795 * 10 * span ^ 2)) (less_mul (less_pos (0_000000000059006 * 10 * span)) h))
    (less_mul (less_pos 0_0000000000000059) (less_mul h h)))

-- the seconds of 100 circles, in units of 10^-7, over span³
abbrev hundred_circles : ℕ
hundred_circles = 100 * 86_400 * 10 ^ 7 * span ^ 3

-- the seconds at 0h UT and those of 100 circles are the whole number that the code counts from
less_seconds : {u : ℤ} (s : ℕ) → s ≤ 109_573 → Less u s span → Less (seconds_of u) (seconds_from s) hundred_circles
unfolding seconds_of seconds_from
less_seconds s small h =
    less_as (239_258_286_542 * span ^ 3 + 86_401_846_266_394 * s * span ^ 2 + s * (s * (931_226 * span - 62 * s))) hundred_circles
    (identity (931_226 * span - 62 * s) (omega arith))
    (less_minus
    (less_add
    (less_add (less_pos (24110_54841 * 10 ^ 2 * span ^ 3)) (less_mul (less_pos (8640184_812866 * 10 * span ^ 2)) h))
    (less_mul (less_pos (0_093104 * 10 * span)) (less_mul h h)))
    (less_mul (less_pos 0_0000062) (less_mul (less_mul h h) h)))
  where
    identity : (w : ℕ) → w + 62 * s ≡ 931_226 * span
        → 24110_54841 * 10 ^ 2 * span ^ 3 + (8640184_812866 * 10 * span ^ 2 * s + 0 * span)
        + (0_093104 * 10 * span * (s * s + span * span) + 0 * (s * span + span * s))
        + (0_0000062 * ((s * s + span * span) * span + (s * span + span * s) * s) + 0 * ((s * s + span * span) * s + (s * span + span * s) * span))
        + hundred_circles
        ≡ 239_258_286_542 * span ^ 3 + 86_401_846_266_394 * s * span ^ 2 + s * (s * w)
        + (0 + (8640184_812866 * 10 * span ^ 2 * span + 0 * s) + (0_093104 * 10 * span * (s * span + span * s) + 0 * (s * s + span * span))
        + (0_0000062 * ((s * s + span * span) * s + (s * span + span * s) * span) + 0 * ((s * s + span * span) * span + (s * span + span * s) * s)))
    identity w e = omega (arith, ap (λ (x : ℕ). s * (s * x)) e)

gathered : {z : ℤ} (p n k q m : ℕ) → Less z (p * n + 0 * k + (q * m + 0 * 0)) (p * k + 0 * n + (q * 0 + 0 * m)) → Less z (p * n + q * m) (p * k)
gathered p n k q m h = less_as (p * n + q * m) (p * k) (omega arith) h

less_sum : (d t s : ℕ) → s ≡ 2 * d + 36_525 → s ≤ 109_573 → Less (seconds_sum d t) (10 ^ 12 * seconds_from s + t * span * rate_from s) (10 ^ 12 * hundred_circles)
less_sum d t s e small =
    gathered (10 ^ 12) (seconds_from s) hundred_circles (t * span) (rate_from s)
    (less_add (less_mul (less_pos (10 ^ 12)) (less_seconds s small less_u)) (less_mul (less_pos (t * span)) (less_rate s small less_u)))
  where
    less_u : Less (centuries d) s span
    less_u = rw e (less_centuries d)

pub rate_small : (s : ℕ) → s ≤ 109_573 → s * (590_178 * span - 59 * s) ≤ 4_800_000_000_000_000
rate_small s h = let x : 590_178 * span - 59 * s ≤ 43_112_502_900 = omega arith in omega (arith, mul-le-mul h x)

pub rate_spelled : (s : ℕ) (bend : Spans) → s ≤ 109_573 → Spelled (s * (590_178 * span - 59 * s)) bend
    → RateSpelled s (record { whole = 10_027_379_092_917_831 + bend.whole; first = bend.first; second = bend.second })
unfolding rate_from
rate_spelled s bend h e =
    record {
      spells = omega (arith, e.spells);
      digits = record { first_below = e.digits.first_below; second_below = e.digits.second_below };
      whole_small = omega (arith, e.spells, rate_small s h);
    }

pub bend_small : (s : ℕ) → s ≤ 109_573 → s * (931_226 * span - 62 * s) ≤ 7_500_000_000_000_000
bend_small s h = let x : 931_226 * span - 62 * s ≤ 68_026_059_300 = omega arith in omega (arith, mul-le-mul h x)

-- what the code computes from the digits of the bend
module _ (s : ℕ) (bend : Spans) (small : s ≤ 109_573) (e : Spelled (s * (931_226 * span - 62 * s)) bend) where
  abbrev pub slope : ℕ
  slope = 86_401_846_266_394 + bend.whole

  abbrev pub third : ℕ
  third = s * bend.second

  abbrev pub second : ℕ
  second = s * bend.first + third / span

  abbrev pub first : ℕ
  first = s * (slope % span) + second / span

  pub slope_small : slope ≤ 86_401_850_000_000
  slope_small = omega (arith, e.spells, bend_small s small)

  pub digit_small : (x : ℕ) → x < span → s * x ≤ 8_004_307_650
  digit_small x h = let le : x ≤ 73_050 = omega arith in mul-le-mul small le

  pub third_small : third ≤ 8_004_307_650
  third_small = digit_small bend.second e.digits.second_below

  pub second_small : s * bend.first ≤ 8_004_307_650
  second_small = digit_small bend.first e.digits.first_below

  pub first_small : s * (slope % span) ≤ 8_004_307_650
  first_small = digit_small (slope % span) (mod-lt slope (omega arith))

  pub turns_small : s * (slope / span) ≤ 129_600_413_263_700
  turns_small = let le : slope / span ≤ 1_182_776_900 = omega (arith, slope_small) in mul-le-mul small le

  pub day_spelled_lem : DaySpelled s (record {
    whole = 239_258_286_542 + s * (slope / span) + first / span;
    first = first % span;
    second = second % span;
    third = third % span;
  })
  unfolding seconds_from
  day_spelled_lem =
      record {
        spells = omega (arith, ap (λ (x : ℕ). s * x) (div-add-mod' slope span), ap (λ (x : ℕ). s * x) e.spells);
        first_below = mod-lt first (omega arith);
        second_below = mod-lt second (omega arith);
        third_below = mod-lt third (omega arith);
        whole_small = omega (arith, turns_small, first_small, second_small, third_small);
      }

-- the carries, from the last digit up
module _ (t : ℕ) (rate : Spans) (day : DaySpans) where
  abbrev pub last_carry : ℕ
  last_carry = 1_000_000_000_000 * day.third / span

  abbrev pub next_carry : ℕ
  next_carry = (1_000_000_000_000 * day.second + t * rate.second + last_carry) / span

  abbrev pub top_carry : ℕ
  top_carry = (1_000_000_000_000 * day.first + t * rate.first + next_carry) / span

  abbrev pub carried_up : ℕ
  carried_up =
      (10_000 * day.whole + t * (rate.whole / 100_000_000) + (t * (rate.whole % 100_000_000) + top_carry) / 100_000_000) / 2_400

  abbrev upper : ℕ
  upper = (10 ^ 12 * day.whole + t * rate.whole) * span + (10 ^ 12 * day.first + t * rate.first)

  regrouped : 10 ^ 12 * day_spelled day + t * span * spelled rate
      ≡ (upper * span + (10 ^ 12 * day.second + t * rate.second)) * span + 10 ^ 12 * day.third
  regrouped = omega arith

  last : 10 ^ 12 * day.whole + t * rate.whole + top_carry
      ≡ (10_000 * day.whole + t * (rate.whole / 100_000_000)) * 100_000_000 + (t * (rate.whole % 100_000_000) + top_carry)
  last = omega (arith, ap (λ (x : ℕ). t * x) (div-add-mod' rate.whole 100_000_000))

  rounded_by_carries : (10 ^ 12 * day_spelled day + t * span * spelled rate) / (span * (span * (span * (100_000_000 * 2_400)))) ≡ carried_up
  rounded_by_carries =
      ap (λ (x : ℕ). x / (span * (span * (span * (100_000_000 * 2_400))))) regrouped
      ∙ carried (upper * span + (10 ^ 12 * day.second + t * rate.second)) (10 ^ 12 * day.third) span (span * (span * (100_000_000 * 2_400))) (omega arith)
      ∙ ap (λ (x : ℕ). x / (span * (span * (100_000_000 * 2_400)))) (add_assoc (upper * span) (10 ^ 12 * day.second + t * rate.second) last_carry)
      ∙ carried upper (1_000_000_000_000 * day.second + t * rate.second + last_carry) span (span * (100_000_000 * 2_400)) (omega arith)
      ∙ ap (λ (x : ℕ). x / (span * (100_000_000 * 2_400))) (add_assoc ((10 ^ 12 * day.whole + t * rate.whole) * span) (10 ^ 12 * day.first + t * rate.first) next_carry)
      ∙ carried (10 ^ 12 * day.whole + t * rate.whole) (1_000_000_000_000 * day.first + t * rate.first + next_carry) span (100_000_000 * 2_400) (omega arith)
      ∙ ap (λ (x : ℕ). x / (100_000_000 * 2_400)) last
      ∙ carried (10_000 * day.whole + t * (rate.whole / 100_000_000)) (t * (rate.whole % 100_000_000) + top_carry) 100_000_000 2_400 (omega arith)

  pub angle_1982_of : (d : ℕ) → 2 * d + 36_525 ≤ 109_573 → RateSpelled (2 * d + 36_525) rate → DaySpelled (2 * d + 36_525) day
      → carried_up % circle ≡ into_circle (sidereal1982 d t)
  angle_1982_of d small r e =
      sym
      (circles_added (seconds_sum d t) _ 100 circle (24 * 10 ^ 10 * span ^ 3) (omega arith) (omega arith) (less_sum d t (2 * d + 36_525) refl small)
      ∙ ap (λ (x : ℕ). x / (24 * 10 ^ 10 * span ^ 3) % circle) spelt
      ∙ ap (λ (x : ℕ). x % circle) rounded_by_carries)
    where
      spelt : 10 ^ 12 * seconds_from (2 * d + 36_525) + t * span * rate_from (2 * d + 36_525) ≡ 10 ^ 12 * day_spelled day + t * span * spelled rate
      spelt = rw (sym r.spells, sym e.spells) refl
