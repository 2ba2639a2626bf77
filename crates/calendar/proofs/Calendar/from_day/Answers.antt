-- `calendar::Calendar::from_day` meets its contract: the division finds the day's year. Assumes nothing.
use mathlib.Core.Path.{◌≡◌, refl}
use Prim.Native.Nat.{ℕ, ◌+◌, ◌*◌, ◌-◌, ◌/◌}
use borrow.Author.Tests.{le-leb}
use native.Mathlib.Omega.{arith}
use Rattle.calendar.specs.Gregorian.{days_before_year}
use Rattle.calendar_lengths.proofs.Lengths.{InYear, year_of_day}
use Rattle.calendar.proofs.Calendar.from_day.Goals as goal

-- the days since the first day, which is 0
abbrev elapsed : ℕ → ℕ
elapsed day = day - 0

abbrev year_of : ℕ → ℕ
year_of day = 1950 + (4 * elapsed day + 2) / 1461

pub overflow_sub-elapsed-2 : goal.overflow_sub-elapsed-2
overflow_sub-elapsed-2 c = omega (arith, (let year : InYear (elapsed c.args.day) (year_of c.args.day) = year_of_day (elapsed c.args.day) (year_of c.args.day) (omega arith) refl in year))

pub date_in_year-requires : goal.date_in_year-requires
date_in_year-requires c = omega (arith, (let year : InYear (elapsed c.args.day) (year_of c.args.day) = year_of_day (elapsed c.args.day) (year_of c.args.day) (omega arith) refl in year))

pub returns : goal.returns
returns c = let day = c.args.day in
    let back : days_before_year (year_of day) + (elapsed day - c.days_before_year.result) ≡ day = omega (arith, (let year : InYear (elapsed c.args.day) (year_of c.args.day) = year_of_day (elapsed c.args.day) (year_of c.args.day) (omega arith) refl in year)) in
    simp (le-leb _ _ c.if-day-gt-LAST_DAY.false, c.date_in_year.ensures, back)
