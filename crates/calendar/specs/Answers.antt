-- Document 01, refusal 8: "no such date within 1950 to 2049, or day above 36,524".
use Rattle.base.specs.declared.Refusal.{Refusal}
use Rattle.std.specs.Prelude.{ℕ, ◌+◌, ◌*◌, Result, Ok, Err}
use Rattle.base.specs.Choice.{if◌then◌otherwise◌, ◌≤?◌}
use Rattle.base.specs.Limits.{last_day}
use Rattle.calendar.specs.declared.Calendar.{Calendar}
use Rattle.calendar.specs.Gregorian.{ymd, is_date, day_of, date_of}

abbrev pub date_answer : ℕ → Result Calendar Refusal
date_answer day = if day ≤? last_day then Ok (date_of day) otherwise Err Refusal.Date

abbrev pub day_answer_of : Calendar → Result ℕ Refusal
day_answer_of date = if is_date date then Ok (day_of date) otherwise Err Refusal.Date

abbrev pub day_answer : ℕ → ℕ → ℕ → Result ℕ Refusal
day_answer year month day = day_answer_of (ymd year month day)

-- "Twice the Julian date at 0h of day d is 4,866,565 + 2d"
abbrev pub julian_answer : ℕ → Result ℕ Refusal
julian_answer day = if day ≤? last_day then Ok (4_866_565 + 2 * day) otherwise Err Refusal.Date
