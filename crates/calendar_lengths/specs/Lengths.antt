-- The lengths of years and months of the Gregorian calendar. Months are counted from 1.
use Rattle.std.specs.Prelude.{Bool, true, false, List, [], ◌∷◌, ℕ, zero, suc, ◌+◌, ◌-◌, ◌%◌, get_or, take}
use Rattle.base.specs.Choice.{if◌then◌otherwise◌, ◌=?◌}

-- a year is leap if 4 divides it; if 100 divides it, 400 must divide it too
abbrev pub is_leap : ℕ → Bool
is_leap year = if year % 400 =? 0 then true otherwise if year % 100 =? 0 then false otherwise year % 4 =? 0

abbrev pub year_length : Bool → ℕ
year_length leap = if leap then 366 otherwise 365

-- January to December
abbrev pub month_lengths : Bool → List ℕ
month_lengths leap = 31 ∷ (if leap then 29 otherwise 28) ∷ 31 ∷ 30 ∷ 31 ∷ 30 ∷ 31 ∷ 31 ∷ 30 ∷ 31 ∷ 30 ∷ 31 ∷ []

abbrev pub month_length : Bool → ℕ → ℕ
month_length leap month = get_or (month_lengths leap) (month - 1) 0

abbrev pub total : List ℕ → ℕ
total [] = 0
total (n ∷ rest) = n + total rest

-- the days in the months of a year before a month
unfoldable pub days_before_month : Bool → ℕ → ℕ
days_before_month leap month = total (take (month - 1) (month_lengths leap))

-- the days in that many years from 1950 on
unfoldable pub days_of_years : ℕ → ℕ
days_of_years zero = 0
days_of_years (suc years) = days_of_years years + year_length (is_leap (1950 + years))

abbrev pub days_before_year : ℕ → ℕ
days_before_year year = days_of_years (year - 1950)
