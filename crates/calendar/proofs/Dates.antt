-- Days and dates: each conversion undoes the other; and their ranges. Assumes nothing.
use mathlib.Core.Bool.{Bool, true, false, false≢true, ◌&&◌}
use mathlib.Core.Path.{◌≡◌, refl, ap, sym, ◌∙◌}
use Prim.Native.Nat.{ℕ, zero, suc, ◌+◌, ◌-◌, ◌≤◌, ◌<◌}
use native.Mathlib.Omega.{arith}
use borrow.Author.Tests.{leb-true, ltb-true, ltb-false, le-leb}
use Rattle.std.specs.Prelude.{Ok}
use Rattle.base.specs.Choice.{if◌then◌otherwise◌, ◌<?◌, ◌≤?◌}
use Rattle.base.specs.Limits.{last_day}
use Rattle.calendar.specs.declared.Calendar.{Calendar}
use Rattle.calendar.specs.Answers.{date_answer, day_answer_of}
use Rattle.calendar.specs.Gregorian.{ymd, is_leap, month_length, days_before_month, days_of_years, is_date, day_of, day_after, date_of}
use Rattle.calendar_lengths.proofs.Lengths.{length_of, days_of_years_lem, days_of_months, length_of_month, length_of_year, month_step, year_step, month_within}
use Rattle.calendar_lengths.proofs.Lengths.{next_month, january_starts, december_ends, month_has_days}
use Rattle.calendar_lengths.proofs.Runs.{later, same_run}

-- a date from 1950 on, with no last year
pub record Proper (date : Calendar) : Type 0 where
  pub from_1950 : 1950 ≤ date.year
  pub month_low : 1 ≤ date.month
  pub month_high : date.month ≤ 12
  pub day_low : 1 ≤ date.day
  pub day_high : date.day ≤ month_length (is_leap date.year) date.month

abbrev leap_of : Calendar → Bool
leap_of date = is_leap date.year

-- the days of its year before a date
abbrev elapsed : Calendar → ℕ
elapsed date = days_before_month (leap_of date) date.month + (date.day - 1)

within_year : (date : Calendar) → Proper date → elapsed date < length_of_year (date.year - 1950)
unfolding days_before_month
within_year date p = omega (arith, month_within (leap_of date) (date.month - 1) (omega arith), length_of date.year p.from_1950)

-- within a year, a day lies in one month
same_in_year : (leap : Bool) (m n i j : ℕ) → 1 ≤ m → 1 ≤ n → 1 ≤ i → 1 ≤ j → i ≤ month_length leap m → j ≤ month_length leap n
    → days_before_month leap m + (i - 1) ≡ days_before_month leap n + (j - 1) → (m ≡ n) × (i ≡ j)
unfolding days_before_month
same_in_year leap m n i j m-low n-low i-low j-low i-high j-high e =
    let place : m - 1 ≡ n - 1 =
    same_run (days_of_months leap) (length_of_month leap) (month_step leap) (m - 1) (n - 1) (i - 1) (j - 1) (omega arith) (omega arith) e in
    omega (arith, ap (days_of_months leap) place)

same_fields : (a b : Calendar) → a.year ≡ b.year → a.month ≡ b.month → a.day ≡ b.day → a ≡ b
same_fields a b y m d =
    ap (λ (x : ℕ). ymd x a.month a.day) y
    ∙ ap (λ (x : ℕ). ymd b.year x a.day) m
    ∙ ap (λ (x : ℕ). ymd b.year b.month x) d

-- one date for a day
pub same_date : (a b : Calendar) → Proper a → Proper b → day_of a ≡ day_of b → a ≡ b
same_date a b pa pb e =
    let place : a.year - 1950 ≡ b.year - 1950 =
    same_run days_of_years length_of_year year_step (a.year - 1950) (b.year - 1950) (elapsed a) (elapsed b)
    (within_year a pa) (within_year b pb) (omega arith)
    in
    let year : a.year ≡ b.year = omega arith in
    let days : elapsed a ≡ days_before_month (leap_of a) b.month + (b.day - 1) =
    omega (arith, ap days_of_years place, ap (λ (y : ℕ). days_before_month (is_leap y) b.month) year) in
    let high : b.day ≤ month_length (leap_of a) b.month = rw year pb.day_high in
    let rest : (a.month ≡ b.month) × (a.day ≡ b.day) =
    same_in_year (leap_of a) a.month b.month a.day b.day
    pa.month_low pb.month_low pa.day_low pb.day_low pa.day_high high days in
    same_fields a b year rest.0 rest.1

-- the day number of the date after a date is one more
record Next (date after : Calendar) : Type 0 where
  count : day_of after ≡ suc (day_of date)
  proper : Proper after

after_cases : (date : Calendar) → Proper date → (more : Bool) → (date.day <? month_length (leap_of date) date.month) ≡ more
    → (further : Bool) → (date.month <? 12) ≡ further
    → Next date (if more then ymd date.year date.month (date.day + 1) otherwise if further then ymd date.year (date.month + 1) 1 otherwise ymd (date.year + 1) 1 1)
after_cases date p true e further f =
    let h : date.day < month_length (leap_of date) date.month = ltb-true _ _ e in
    record {
      count = omega arith;
      proper = omega arith;
    }
after_cases date p false e true f =
    let h : month_length (leap_of date) date.month ≤ date.day = ltb-false _ _ e in
    let l : date.month < 12 = ltb-true _ _ f in
    record {
      count = omega (arith, next_month (leap_of date) date.month p.month_low);
      proper = omega (arith, month_has_days (leap_of date) (date.month + 1) (omega arith) (omega arith));
    }
after_cases date p false e false f =
    let h : month_length (leap_of date) date.month ≤ date.day = ltb-false _ _ e in
    let l : 12 ≤ date.month = ltb-false _ _ f in
    let december : date.month ≡ 12 = omega arith in
    let place : date.year + 1 - 1950 ≡ suc (date.year - 1950) = omega arith in
    record {
      count =
          omega (
            arith,
            ap days_of_years place,
            year_step (date.year - 1950),
            length_of date.year p.from_1950,
            january_starts (is_leap (date.year + 1)),
            ap (λ (m : ℕ). days_before_month (leap_of date) m + month_length (leap_of date) m) december,
            december_ends (leap_of date),
          );
      proper = omega (arith, month_has_days (is_leap (date.year + 1)) 1 (omega arith) (omega arith));
    }

after : (date : Calendar) → Proper date → Next date (day_after date)
after date p = after_cases date p (date.day <? month_length (leap_of date) date.month) refl (date.month <? 12) refl

pub proper : (day : ℕ) → Proper (date_of day)
unfolding date_of
proper zero = omega arith
proper (suc day) = (after (date_of day) (proper day)).proper

-- a day's date has that day
pub day_and_back : (day : ℕ) → day_of (date_of day) ≡ day
unfolding date_of days_of_years days_before_month
day_and_back zero = refl
day_and_back (suc day) = (after (date_of day) (proper day)).count ∙ ap suc (day_and_back day)

pub found : (day : ℕ) (date : Calendar) → Proper date → day_of date ≡ day → date ≡ date_of day
found day date p e = same_date date (date_of day) p (proper day) (e ∙ sym (day_and_back day))

conditions : (a b c d e f : Bool) → (a && b && c && d && e && f) ≡ true
    → (a ≡ true) × (b ≡ true) × (c ≡ true) × (d ≡ true) × (e ≡ true) × (f ≡ true)
conditions true true true true true true h = (refl, refl, refl, refl, refl, refl)
conditions true true true true true false h = absurd (false≢true h)
conditions true true true true false f h = absurd (false≢true h)
conditions true true true false e f h = absurd (false≢true h)
conditions true true false d e f h = absurd (false≢true h)
conditions true false c d e f h = absurd (false≢true h)
conditions false b c d e f h = absurd (false≢true h)

-- `is_date` as facts
pub dated : (date : Calendar) → is_date date ≡ true → Proper date × (date.year ≤ 2049)
dated date h =
    let t =
    conditions (1950 ≤? date.year) (date.year ≤? 2049) (1 ≤? date.month) (date.month ≤? 12)
    (1 ≤? date.day) (date.day ≤? month_length (leap_of date) date.month) h
    in
    omega (arith, leb-true)

pub is_date_lem : (date : Calendar) → Proper date → date.year ≤ 2049 → is_date date ≡ true
is_date_lem date p h =
    simp
    (le-leb _ _ p.from_1950, le-leb _ _ h, le-leb _ _ p.month_low, le-leb _ _ p.month_high, le-leb _ _ p.day_low, le-leb _ _ p.day_high)

-- a date's day has that date
pub date_and_back : (date : Calendar) → is_date date ≡ true → date_of (day_of date) ≡ date
date_and_back date h = sym (found (day_of date) date (dated date h).0 refl)

hundred_years : days_of_years 100 ≡ 36_525
hundred_years = days_of_years_lem 100 (omega arith)

years_later : (m n : ℕ) → m < n → days_of_years m + length_of_year m ≤ days_of_years n
years_later = later days_of_years length_of_year year_step

by_2049 : (date : Calendar) → Proper date → day_of date ≤ last_day → date.year ≤ 2049
by_2049 date p h =
    let no : 2049 < date.year → ⊥ = λ l. omega (arith, years_later 99 (date.year - 1950) (omega arith), year_step 99, hundred_years) in
    omega arith

-- every day up to the last has a date within 1950 to 2049
pub day_is_date : (day : ℕ) → day ≤ last_day → is_date (date_of day) ≡ true
day_is_date day h = is_date_lem (date_of day) (proper day) (by_2049 (date_of day) (proper day) (rw day_and_back h))

-- every date within 1950 to 2049 has a day up to the last
pub date_in_range : (date : Calendar) → is_date date ≡ true → day_of date ≤ last_day
date_in_range date h =
    let p : Proper date = (dated date h).0 in
    let y : date.year ≤ 2049 = (dated date h).1 in
    omega (arith, years_later (date.year - 1950) 100 (omega arith), within_year date p, hundred_years)

-- the calls undo each other
pub day_call_and_back : (day : ℕ) → day ≤ last_day → day_answer_of (date_of day) ≡ Ok day
day_call_and_back day h = rw (day_is_date day h, day_and_back day)

pub date_call_and_back : (date : Calendar) → is_date date ≡ true → date_answer (day_of date) ≡ Ok date
date_call_and_back date h = rw (le-leb (day_of date) last_day (date_in_range date h), date_and_back date h)
