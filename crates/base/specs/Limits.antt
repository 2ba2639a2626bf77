-- Document 01, "Time": the limits of moments, days and DUT, in whole milliseconds, and of angles, in parts.
use Rattle.std.specs.Prelude.{Bool, ℕ}
use Rattle.base.specs.Choice.{◌<?◌, ◌≤?◌}

-- moments are "0 up to but not including" this
abbrev pub end_of_time : ℕ
end_of_time = 3_155_760_000_000

abbrev pub is_moment : ℕ → Bool
is_moment t = t <? end_of_time

-- a day in milliseconds, and "the last day"
abbrev pub day_length : ℕ
day_length = 86_400_000

abbrev pub last_day : ℕ
last_day = 36_524

-- "a circle is 3,600,000,000,000 parts"
abbrev pub circle : ℕ
circle = 3_600_000_000_000

-- DUT is "a setting of 0 to 100,000 ms"
abbrev pub is_dut : ℕ → Bool
is_dut dut = dut ≤? 100_000
