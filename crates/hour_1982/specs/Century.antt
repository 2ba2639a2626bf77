-- The 1982 rule within 64 bits: the contracts of the private functions. They count in s = 2d + 36,525, so that T is s/span - 1. They start
-- from 100 circles, so that nothing is negative. The fraction of a number is kept as digits of base span.
use Rattle.std.specs.Prelude.{◌≡◌, ℕ, ◌+◌, ◌-◌, ◌*◌, ◌^◌, ◌≤◌, ◌<◌}
use Rattle.hour_1982.specs.Sidereal.{span}
use Rattle.hour_1982.specs.declared.Spans.{Spans}
use Rattle.hour_1982.specs.declared.DaySpans.{DaySpans}

-- whole + first/span + second/span², over span²
abbrev pub spelled : Spans → ℕ
spelled n = (n.whole * span + n.first) * span + n.second

pub record Digits (n : Spans) : Type 0 where
  pub first_below : n.first < span
  pub second_below : n.second < span

pub record Spelled (n : ℕ) (r : Spans) : Type 0 where
  pub spells : spelled r ≡ n
  pub digits : Digits r

-- the rate in units of its last place, over span²
unfoldable pub rate_from : ℕ → ℕ
rate_from s = 10_027_379_092_917_831 * span ^ 2 + s * (590_178 * span - 59 * s)

pub record RateSpelled (s : ℕ) (r : Spans) : Type 0 where
  pub spells : spelled r ≡ rate_from s
  pub digits : Digits r
  pub whole_small : r.whole ≤ 10_027_380_000_000_000

-- the seconds at 0h UT and those of 100 circles, in units of their last place, over span³
unfoldable pub seconds_from : ℕ → ℕ
seconds_from s = 239_258_286_542 * span ^ 3 + 86_401_846_266_394 * s * span ^ 2 + s * (s * (931_226 * span - 62 * s))

abbrev pub day_spelled : DaySpans → ℕ
day_spelled n = ((n.whole * span + n.first) * span + n.second) * span + n.third

pub record DaySpelled (s : ℕ) (r : DaySpans) : Type 0 where
  pub spells : day_spelled r ≡ seconds_from s
  pub first_below : r.first < span
  pub second_below : r.second < span
  pub third_below : r.third < span
  pub whole_small : r.whole ≤ 130_000_000_000_000
