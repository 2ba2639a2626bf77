-- Quotients by the fourth term's divisor, 10^15 and a small excess, from divisions by constants only. Assumes nothing.
use mathlib.Core.Path.{◌≡◌, ap, sym}
use Prim.Native.Nat.{ℕ, zero, suc, ◌+◌, ◌-◌, ◌*◌, ◌/◌, ◌%◌, ◌^◌, ◌≤◌, ◌<◌}
use native.Mathlib.Nat.{div-eq_of_lt-le, mul-le-mul}
use native.Mathlib.Omega.{arith}
use Rattle.base.specs.Limits.{day_length, last_day}
use Rattle.hour_old.specs.Division.{EstimateOf}

-- the estimate's equation, from the divisions in the code: `up` fills `low` up to 2^20
estimate_exact : (t excess quotient y high low up paid unpaid rest : ℕ)
    → 417_807_417 * t ≡ quotient * 10_000 + y
    → quotient ≡ high * 1_048_576 + low
    → up + low ≡ 1_048_576
    → (high + 1) * excess ≡ paid * 953_674_316 + unpaid
    → rest + unpaid * 1_048_576 ≡ y * 100_000_000_000 + 425_984 * paid + (paid + 1 + up) * excess + 1_000_000_000_000_000
    → 417_807_417 * 10 ^ 11 * t + (paid + 1) * (10 ^ 15 + excess) ≡ quotient * (10 ^ 15 + excess) + rest
estimate_exact t excess quotient y high low up paid unpaid rest turned parts filled owed more =
    omega (arith, ap (λ (x : ℕ). x * excess) parts, ap (λ (x : ℕ). x * excess) filled)

-- the estimate, by the names of the code
module _ (t excess : ℕ) (h : t < day_length) (small : excess ≤ 521 * last_day) where
  abbrev quotient : ℕ
  quotient = 417_807_417 * t / 10_000

  abbrev owed : ℕ
  owed = (quotient / 1_048_576 + 1) * excess

  abbrev up : ℕ
  up = 1_048_576 - quotient % 1_048_576

  abbrev paid : ℕ
  paid = owed / 953_674_316

  abbrev rest : ℕ
  rest =
      417_807_417 * t % 10_000 * 100_000_000_000 + 425_984 * paid + (paid + 1 + up) * excess
      + 1_000_000_000_000_000 - owed % 953_674_316 * 1_048_576

  pub owed_below : owed ≤ 3_500_000 * (521 * last_day)
  owed_below = let few : quotient / 1_048_576 + 1 ≤ 3_500_000 = omega arith in mul-le-mul few small

  pub paid_below : paid ≤ 70_000
  paid_below = omega (arith, owed_below)

  pub more_below : (paid + 1 + up) * excess ≤ 1_200_000 * (521 * last_day)
  more_below = let few : paid + 1 + up ≤ 1_200_000 = omega (arith, paid_below) in mul-le-mul few small

  pub is_estimate : EstimateOf (417_807_417 * 10 ^ 11 * t) (10 ^ 15 + excess) (record { quotient = quotient; over = paid + 1; rest = rest })
  is_estimate =
      record {
        exact =
            estimate_exact t excess quotient (417_807_417 * t % 10_000) (quotient / 1_048_576) (quotient % 1_048_576) up paid (owed % 953_674_316) rest
            (omega arith) (omega arith) (omega arith) (omega arith) (omega arith);
        rest_small = omega (arith, paid_below, more_below);
        over_small = omega (arith, paid_below);
        quotient_small = omega arith;
      }

above_zero : (n m : ℕ) {k : ℕ} → k < n * m → 0 < n
above_zero zero m h = omega arith
above_zero (suc n) m h = omega arith

-- a rest in units of 10^-7 part: division by 10^15 gives the units, or one too many
module _ (rest excess : ℕ) (h : rest < 3 * (10 ^ 15 + excess)) (small : excess ≤ 521 * last_day) where
  abbrev Enough : Type 0
  Enough = rest / 100_000_000 * excess ≤ rest % 100_000_000 * 10_000_000

  abbrev TooMany : Type 0
  TooMany = rest % 100_000_000 * 10_000_000 < rest / 100_000_000 * excess

  pub units_below : rest / 100_000_000 * excess ≤ 30_000_001 * (521 * last_day)
  units_below = let few : rest / 100_000_000 ≤ 30_000_001 = omega arith in mul-le-mul few small

  pub units_right : Enough → rest / 100_000_000 ≡ rest * 10 ^ 7 / (10 ^ 15 + excess)
  units_right enough = sym (div-eq_of_lt-le (10 ^ 15 + excess) (omega arith) (omega arith))

  one_less : (units : ℕ) → units + 1 ≡ rest / 100_000_000 → TooMany → rest * 10 ^ 7 / (10 ^ 15 + excess) ≡ units
  one_less units e over =
      div-eq_of_lt-le (10 ^ 15 + excess)
      (omega (arith, units_below, ap (λ (x : ℕ). x * excess) e))
      (omega (arith, ap (λ (x : ℕ). x * excess) e))

  pub one_at_least : TooMany → 1 ≤ rest / 100_000_000
  one_at_least over = above_zero (rest / 100_000_000) excess over

  pub one_too_many : TooMany → rest / 100_000_000 - 1 ≡ rest * 10 ^ 7 / (10 ^ 15 + excess)
  one_too_many over = sym (one_less (rest / 100_000_000 - 1) (omega (arith, one_at_least over)) over)
