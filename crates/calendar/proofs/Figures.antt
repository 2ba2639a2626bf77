-- Document 01's figures of the calendar that are not in the table of proved cases (crates/cases). Assumes nothing.
use mathlib.Core.Path.{◌≡◌, refl}
use Rattle.base.specs.declared.Refusal.{Refusal}
use Rattle.std.specs.Prelude.{Ok, Err}
use Rattle.calendar.specs.Answers.{date_answer, day_answer}
use Rattle.calendar.specs.Gregorian.{ymd, date_of}

-- "Day 0 is 1950 January 1"
pub first_day : date_answer 0 ≡ Ok (ymd 1950 1 1)
unfolding date_of
first_day = refl

-- "2001 February 29 gives 8"
pub no_such_date : day_answer 2001 2 29 ≡ Err Refusal.Date
no_such_date = refl
