-- Document 02, R-13: "rounded to nearest, a tie to the even last digit", over whole numbers.
use Rattle.std.specs.Prelude.{ℕ, ◌+◌, ◌-◌, ◌*◌, ◌/◌, ◌%◌, ◌≤◌, ◌≡◌}
use Rattle.base.specs.Choice.{if◌then◌otherwise◌, ◌<?◌}

-- the distance of two whole numbers: one of the two differences is 0
abbrev pub apart : ℕ → ℕ → ℕ
apart a b = (a - b) + (b - a)

-- q is the whole number nearest to the fraction n / d. Twice the distance, in parts of d, is at most d, and at a tie q is even.
pub record Nearest (n d q : ℕ) : Type 0 where
  pub near : 2 * apart n (q * d) ≤ d
  pub tie : 2 * apart n (q * d) ≡ d → q % 2 ≡ 0

-- the whole number nearest to n / d: the quotient or the next one up. Twice the remainder is compared with d.
abbrev pub nearest_to : ℕ → ℕ → ℕ
nearest_to n d =
    if 2 * (n % d) <? d then n / d otherwise
    if d <? 2 * (n % d) then n / d + 1 otherwise n / d + n / d % 2
