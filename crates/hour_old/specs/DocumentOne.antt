-- Document 01, "Hour angle": the four terms as one exact fraction.
use Rattle.std.specs.Prelude.{ℕ, ◌+◌, ◌*◌, ◌^◌, pos}
use Rattle.hour_rounding.specs.Fraction.{Fraction}

-- the divisor of the fourth term, in document 01's rule for d whole days and t milliseconds of UT
abbrev pub slowing : ℕ → ℕ
slowing d = 10 ^ 15 + 521 * d

-- the denominator of the sum: the divisors of the third and the fourth term, 10^7 and 10^15 + 521·d, multiplied
abbrev pub denominator : ℕ → ℕ
denominator d = 10 ^ 7 * slowing d

-- the four terms over that denominator: the first two times all of it, the third and the fourth each times the divisor of the other
abbrev pub numerator : ℕ → ℕ → ℕ
numerator d t =
    1_000_755_426_000 * denominator d
    + 9_856_473_460 * d * denominator d
    + 29_015 * (d * d) * slowing d
    + 417_807_417 * 10 ^ 11 * t * 10 ^ 7

abbrev pub document_one : ℕ → ℕ → Fraction
document_one d t = record { numerator = pos (numerator d t); denominator = denominator d }
