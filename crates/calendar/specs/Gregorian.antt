-- Document 01, "Time": days counted from 1950 January 1 by the Gregorian calendar. Months and days of a month are counted from 1.
use Rattle.std.specs.Prelude.{Bool, ◌&&◌, ℕ, zero, suc, ◌+◌, ◌-◌}
use Rattle.base.specs.Choice.{if◌then◌otherwise◌, ◌<?◌, ◌≤?◌}
pub use Rattle.calendar_lengths.specs.Lengths.{is_leap, year_length, month_lengths, month_length, total, days_before_year}
unfoldable pub use Rattle.calendar_lengths.specs.Lengths.{days_before_month, days_of_years}
use Rattle.calendar.specs.declared.Calendar.{Calendar}

abbrev pub ymd : ℕ → ℕ → ℕ → Calendar
ymd year month day = record { year = year; month = month; day = day }

-- a date "within 1950 to 2049"
abbrev pub is_date : Calendar → Bool
is_date date =
    1950 ≤? date.year && date.year ≤? 2049
    && 1 ≤? date.month && date.month ≤? 12
    && 1 ≤? date.day && date.day ≤? month_length (is_leap date.year) date.month

-- the day of a date: the days of the years before it, of its year's months before it, and of its month before it
abbrev pub day_of : Calendar → ℕ
day_of date = days_before_year date.year + days_before_month (is_leap date.year) date.month + (date.day - 1)

-- the date after a date: the next day of the month, or the first day of the next month, or the first day of the next year
abbrev pub day_after : Calendar → Calendar
day_after date =
    if date.day <? month_length (is_leap date.year) date.month then ymd date.year date.month (date.day + 1) otherwise
    if date.month <? 12 then ymd date.year (date.month + 1) 1 otherwise
    ymd (date.year + 1) 1 1

-- the date of a day: "Day 0 is 1950 January 1"
unfoldable pub date_of : ℕ → Calendar
date_of zero = ymd 1950 1 1
date_of (suc day) = day_after (date_of day)
