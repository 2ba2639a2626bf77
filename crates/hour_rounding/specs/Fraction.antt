-- An exact value as one fraction of whole numbers, "rounded down once and brought into one circle". Both rules of the hour angle end here.
use Rattle.std.specs.Prelude.{ℕ, ◌-◌, ◌/◌, ◌%◌, ℤ, pos, negsuc}
use Rattle.base.specs.Limits.{circle}

-- numerator over denominator, which is above 0
pub record Fraction : Type 0 where
  pub numerator : ℤ
  pub denominator : ℕ

-- the greatest whole number that is not above z / d (`negsuc n` is the number -(n + 1))
abbrev pub floor : ℤ → ℕ → ℤ
floor (pos n) d = pos (n / d)
floor (negsuc n) d = negsuc (n / d)

-- the number from 0 to m - 1 that differs from a whole number by a multiple of m
abbrev pub rest : ℤ → ℕ → ℕ
rest (pos n) m = n % m
rest (negsuc n) m = m - 1 - n % m

-- "rounded down once and brought into one circle"
abbrev pub into_circle : Fraction → ℕ
into_circle f = rest (floor f.numerator f.denominator) circle
