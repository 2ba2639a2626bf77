-- The search for a day's month within its year: what holds at each month, and what it finds. Assumes nothing.
use mathlib.Core.Bool.{Bool}
use mathlib.Core.Path.{◌≡◌, ap, sym}
use Prim.Native.Nat.{ℕ, ◌+◌, ◌-◌, ◌≤◌, ◌<◌}
use native.Mathlib.Omega.{arith}
use Rattle.calendar.specs.Gregorian.{ymd, is_leap, year_length, month_length, days_before_month, days_before_year, date_of}
use Rattle.calendar_lengths.proofs.Lengths.{next_month, january_starts, december_ends}
use Rattle.calendar.proofs.Dates.{found}

-- the elapsed days of a year reach to a month, or past it, by rest
pub record Reached (leap : Bool) (elapsed month rest : ℕ) : Type 0 where
  pub within : elapsed < year_length leap
  pub month_low : 1 ≤ month
  pub month_high : month ≤ 12
  pub days : days_before_month leap month + rest ≡ elapsed

pub start : (leap : Bool) (elapsed : ℕ) → elapsed < year_length leap → Reached leap elapsed 1 elapsed
start leap elapsed h = omega (arith, january_starts leap)

module _ (leap : Bool) (elapsed month rest : ℕ) (r : Reached leap elapsed month rest) where
  pub onward : month < 12 → month_length leap month ≤ rest → Reached leap elapsed (month + 1) (rest - month_length leap month)
  onward l h = omega (arith, next_month leap month r.month_low)

  -- past December no day of the year is left
  pub in_december : month ≡ 12 → rest < month_length leap month
  in_december e = omega (arith, ap (λ (m : ℕ). days_before_month leap m + month_length leap m) e, december_ends leap)

  pub reached : (year : ℕ) → 1950 ≤ year → leap ≡ is_leap year → rest < month_length leap month → ymd year month (rest + 1) ≡ date_of (days_before_year year + elapsed)
  reached year low e h =
      let high : rest + 1 ≤ month_length (is_leap year) month = rw (sym e) (omega arith) in
      let days : days_before_month (is_leap year) month + rest ≡ elapsed = rw (sym e) r.days in
      found (days_before_year year + elapsed) (ymd year month (rest + 1))
      (omega arith) (omega arith)
