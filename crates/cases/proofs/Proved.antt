-- Every case of the table is right. Assumes nothing.
use mathlib.Core.Path.{refl}
use lib.Ieee.{neg, add, sub, mul, div, lt, eq, of_bits, of_int, of_fields, odd, size}
use Rattle.calendar.specs.Gregorian.{ymd, days_before_month, days_of_years}
use Rattle.calendar.proofs.Dates.{date_call_and_back}
use Rattle.hour.specs.Hour.{sidereal_angle}
use Rattle.state.specs.State.{n, setting_allowed, coefficients_allowed, terms_allowed, centre_allowed, coefficient_of}
use Rattle.root.specs.Root.{root_of}
use Rattle.base_bytes.specs.Bytes.{u16_at, u32_at, u64_at}
use Rattle.book.specs.Passes.{passes}
use Rattle.book.specs.Lookup.{lookup}
use Rattle.book.specs.Position.{body_at, position_answer}
use Rattle.book.specs.Series.{argument, clenshaw, series, slopes, slope, place, velocity}
use Rattle.state_checks.specs.Common.{common_checks}
use Rattle.gravity.specs.Pull.{g, sound, r3}
use Rattle.gravity.specs.Acceleration.{sky, acceleration_at, acceleration_answer}
use Rattle.conic.specs.Conic.{cross, eccentricity, last_figure, orbit, fit, fit_nonzero, orbit_checks, conic_of, orbit_answer, conic_answer, figures_about}
use Rattle.cases.specs.Table.{AllRight, table}

infixr 5 ◌&◌
◌&◌ : {A B : Type 0} → A → B → A × B
a & b = (a, b)

-- The day of a date is counted by the lengths of years and months, and a law gives its date; every other row computes.
pub all : AllRight table
unfolding days_before_month days_of_years sidereal_angle u16_at u32_at u64_at passes lookup body_at position_answer argument clenshaw series slopes slope place velocity
    setting_allowed coefficients_allowed terms_allowed centre_allowed coefficient_of common_checks sky acceleration_at acceleration_answer g sound r3 n
    cross eccentricity last_figure orbit fit fit_nonzero orbit_checks conic_of orbit_answer conic_answer figures_about root_of neg add sub mul div lt eq of_bits of_int of_fields odd size
all =
    date_call_and_back (ymd 1958 1 1) refl
    & date_call_and_back (ymd 2000 2 29) refl
    & date_call_and_back (ymd 2049 12 31) refl
    & refl
    & refl
    & refl
    & refl
    & refl
    & refl
    & refl
    & refl
    & refl
    & refl
    & refl
    & refl
    & tt
