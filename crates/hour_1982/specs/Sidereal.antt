-- Document 02, R-9: the IAU 1982 expression for Greenwich mean sidereal time, as one fraction. Its inputs are the UT day d and t
-- milliseconds of it. The decimals are those printed, with _ for the point: 24110_54841 is 24110.54841 in units of its last place.
use Rattle.std.specs.Prelude.{ℕ, ◌*◌, ◌^◌, ℤ, pos, ◌+ℤ◌, ◌-ℤ◌, ◌*ℤ◌}
use Rattle.hour_rounding.specs.Fraction.{Fraction}

-- "T = (2d - 36,525)/73,050": its two whole numbers, the first "negative before 2000"
abbrev pub centuries : ℕ → ℤ
centuries d = pos (2 * d) -ℤ pos 36_525

abbrev pub span : ℕ
span = 73_050

-- "seconds at 0h UT are 24110.54841 + 8640184.812866·T + 0.093104·T² - 0.0000062·T³". Here u is the numerator of T. There are seven places,
-- and the denominator has span three times.
unfoldable pub seconds_of : ℤ → ℤ
seconds_of u =
    pos (24110_54841 * 10 ^ 2 * span ^ 3)
    +ℤ pos (8640184_812866 * 10 * span ^ 2) *ℤ u
    +ℤ pos (0_093104 * 10 * span) *ℤ (u *ℤ u)
    -ℤ pos 0_0000062 *ℤ (u *ℤ u *ℤ u)

-- "UT of day counts at the rate 1.002737909350795 + 0.000000000059006·T - 0.0000000000000059·T²": sixteen places, and span twice
unfoldable pub rate_of : ℤ → ℤ
rate_of u =
    pos (1_002737909350795 * 10 * span ^ 2)
    +ℤ pos (0_000000000059006 * 10 * span) *ℤ u
    -ℤ pos 0_0000000000000059 *ℤ (u *ℤ u)

-- "the exact sum": seconds at 0h, and t at the rate. There are nineteen places (t has three) and span three times.
abbrev pub seconds_sum : ℕ → ℕ → ℤ
seconds_sum d t = pos (10 ^ 12) *ℤ seconds_of (centuries d) +ℤ pos (t * span) *ℤ rate_of (centuries d)

-- "in parts": "86,400 seconds are a circle", so 24 seconds are 10^9 parts
abbrev pub sidereal1982 : ℕ → ℕ → Fraction
sidereal1982 d t = record { numerator = seconds_sum d t; denominator = 24 * 10 ^ 10 * span ^ 3 }
