-- The lengths of years and months of the Gregorian calendar, and where each starts. Assumes nothing.
use mathlib.Core.Bool.{Bool, true, false, ◌&&◌}
use mathlib.Core.List.{List, [], ◌∷◌}
use mathlib.Core.Path.{◌≡◌, refl, ap, sym, ◌∙◌}
use Prim.Native.Nat.{ℕ, zero, suc, ◌+◌, ◌-◌, ◌*◌, ◌/◌, ◌%◌, ◌≤◌, ◌<◌}
use native.Mathlib.Nat.{add-sub_of_le, le_of_suc-le-suc, not-suc-le-zero}
use native.Mathlib.Omega.{arith}
use lib.ListN.{get_or, take, length}
use borrow.Author.Tests.{leb-true, eqb-true, eqb-false, eq-eqb}
use Rattle.base.specs.Choice.{if◌then◌otherwise◌, ◌≤?◌, ◌=?◌}
use Rattle.base.specs.Limits.{last_day}
use Rattle.base.proofs.Bools.{halves}
use Rattle.calendar_lengths.specs.Lengths.{is_leap, year_length, month_lengths, month_length, total, days_before_month, days_of_years, days_before_year}
use Rattle.calendar_lengths.proofs.Runs.{later}

-- within 1950 to 2049 the years that 4 divides are leap
leap_cases : (year : ℕ) → 1950 ≤ year → year ≤ 2049 → (by400 by100 : Bool) → (year % 400 =? 0) ≡ by400 → (year % 100 =? 0) ≡ by100
    → (year % 4 =? 0) ≡ (if by400 then true otherwise if by100 then false otherwise year % 4 =? 0)
leap_cases year low high true by100 e f = eq-eqb (year % 4) 0 (omega (arith, eqb-true (year % 400) 0 e))
leap_cases year low high false true e f =
    absurd (eqb-false (year % 400) 0 e (omega (arith, eqb-true (year % 100) 0 f)))
leap_cases year low high false false e f = refl

pub leap_here : (year : ℕ) → 1950 ≤ year → year ≤ 2049 → (year % 4 =? 0) ≡ is_leap year
leap_here year low high = leap_cases year low high (year % 400 =? 0) (year % 100 =? 0) refl refl

length_cases : (k : ℕ) (leap : Bool) → ((1950 + k) % 4 =? 0) ≡ leap → year_length leap + (k + 1) / 4 ≡ 365 + (k + 2) / 4
length_cases k true e = omega (arith, eqb-true ((1950 + k) % 4) 0 e)
length_cases k false e = let n : ((1950 + k) % 4 ≡ 0 → ⊥) = eqb-false ((1950 + k) % 4) 0 e in omega arith

year_length_lem : (k : ℕ) → k < 100 → year_length (is_leap (1950 + k)) + (k + 1) / 4 ≡ 365 + (k + 2) / 4
year_length_lem k h = length_cases k (is_leap (1950 + k)) (leap_here (1950 + k) (omega arith) (omega arith))

-- the days of up to a hundred years from 1950 on: each fourth from 1952 on has a day more
pub days_of_years_lem : (k : ℕ) → k ≤ 100 → days_of_years k ≡ 365 * k + (k + 1) / 4
unfolding days_of_years
days_of_years_lem zero h = refl
days_of_years_lem (suc k) h = omega (arith, days_of_years_lem k (omega arith), year_length_lem k (omega arith))

abbrev pub length_of_year : ℕ → ℕ
length_of_year k = year_length (is_leap (1950 + k))

pub year_step : (k : ℕ) → days_of_years (suc k) ≡ days_of_years k + length_of_year k
unfolding days_of_years
year_step k = refl

pub length_of : (year : ℕ) → 1950 ≤ year → length_of_year (year - 1950) ≡ year_length (is_leap year)
length_of year h = ap (λ (y : ℕ). year_length (is_leap y)) (add-sub_of_le h)

abbrev pub InYear : ℕ → ℕ → Type 0
InYear day year = (days_before_year year ≤ day) × (day < days_before_year year + year_length (is_leap year))

-- the year of a day, found by a division: four years have 1461 days
pub year_of_day : (day year : ℕ) → day ≤ last_day → year ≡ 1950 + (4 * day + 2) / 1461 → InYear day year
year_of_day day year h e =
    omega (
      arith,
      days_of_years_lem (year - 1950) (omega arith),
      year_length_lem (year - 1950) (omega arith),
      length_of year (omega arith),
    )

-- months by their place, from 0
abbrev pub length_of_month : Bool → ℕ → ℕ
length_of_month leap i = get_or (month_lengths leap) i 0

abbrev pub days_of_months : Bool → ℕ → ℕ
days_of_months leap i = total (take i (month_lengths leap))

take_step : (lengths : List ℕ) (i : ℕ) → total (take (suc i) lengths) ≡ total (take i lengths) + get_or lengths i 0
take_step [] zero = refl
take_step [] (suc i) = refl
take_step (x ∷ rest) zero = omega arith
take_step (x ∷ rest) (suc i) = omega (arith, take_step rest i)

pub month_step : (leap : Bool) (i : ℕ) → days_of_months leap (suc i) ≡ days_of_months leap i + length_of_month leap i
month_step leap i = take_step (month_lengths leap) i

pub months_make_year : (leap : Bool) → days_of_months leap 12 ≡ year_length leap
months_make_year true = refl
months_make_year false = refl

-- a month ends within its year
pub month_within : (leap : Bool) (i : ℕ) → i < 12 → days_of_months leap i + length_of_month leap i ≤ year_length leap
month_within leap i h = omega (arith, months_make_year leap, later (days_of_months leap) (length_of_month leap) (month_step leap) i 12 h)

pub next_month : (leap : Bool) (month : ℕ) → 1 ≤ month → days_before_month leap (month + 1) ≡ days_before_month leap month + month_length leap month
unfolding days_before_month
next_month leap month h = let place : month + 1 - 1 ≡ suc (month - 1) = omega arith in ap (days_of_months leap) place ∙ month_step leap (month - 1)

pub january_starts : (leap : Bool) → days_before_month leap 1 ≡ 0
unfolding days_before_month
january_starts leap = refl

pub december_ends : (leap : Bool) → days_before_month leap 12 + month_length leap 12 ≡ year_length leap
unfolding days_before_month
december_ends leap = sym (month_step leap 11) ∙ months_make_year leap

positive : List ℕ → Bool
positive [] = true
positive (x ∷ rest) = 1 ≤? x && positive rest

positive_at : (lengths : List ℕ) → positive lengths ≡ true → (i : ℕ) → i < length lengths → 1 ≤ get_or lengths i 0
unfolding positive
positive_at [] e i h = absurd (not-suc-le-zero h)
positive_at (x ∷ rest) e zero h = leb-true 1 x (halves (1 ≤? x) (positive rest) e).0
positive_at (x ∷ rest) e (suc i) h = positive_at rest (halves (1 ≤? x) (positive rest) e).1 i (le_of_suc-le-suc h)

pub month_has_days : (leap : Bool) (month : ℕ) → 1 ≤ month → month ≤ 12 → 1 ≤ month_length leap month
unfolding positive
month_has_days true month low high = positive_at (month_lengths true) refl (month - 1) (omega arith)
month_has_days false month low high = positive_at (month_lengths false) refl (month - 1) (omega arith)

pub year_at_most : (leap : Bool) → year_length leap ≤ 366
year_at_most true = omega arith
year_at_most false = omega arith

pub month_ends : (leap : Bool) (month : ℕ) → 1 ≤ month → month ≤ 12 → days_before_month leap month + month_length leap month ≤ 366
unfolding days_before_month
month_ends leap month low high = omega (arith, month_within leap (month - 1) (omega arith), year_at_most leap)
