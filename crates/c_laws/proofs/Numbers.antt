-- Every refusal of every call has a number of the table, 1 to 18. So a call returns 0 only if it is accepted, and a run returns 100 only if
-- it is going. Assumes nothing.
use mathlib.Core.Bool.{true}
use mathlib.Core.List.{List}
use mathlib.Core.Path.{◌≡◌, refl}
use Prim.Native.Nat.{ℕ, ◌+◌}
use lib.Ieee.{Float}
use Rattle.std.specs.Prelude.{Result, Ok, Err}
use Rattle.base.specs.Refusals.{number_of}
use Rattle.base.specs.declared.Refusal.{Refusal}
use Rattle.state.specs.declared.State.{State}
use Rattle.state.specs.declared.Injection.{Injection}
use Rattle.state.specs.declared.Setting.{Setting}
use Rattle.state.specs.declared.Vector.{Vector}
use Rattle.calendar.specs.Answers.{date_answer, day_answer, julian_answer}
use Rattle.hour.specs.Hour.{hour_answer, sidereal_answer}
use Rattle.root.specs.Root.{root_answer}
use Rattle.sine.specs.Sine.{sine_cosine_answer}
use Rattle.book.specs.Position.{position_answer}
use Rattle.gravity.specs.Acceleration.{acceleration_answer}
use Rattle.gravity.specs.declared.Guesses.{Guesses}
use Rattle.gravity_stored.specs.Injection.{injection_answer as stored_answer}
use Rattle.run.specs.Run.{run_answer, single_step_answer}
use Rattle.run.specs.declared.Outcome.{Outcome}
use Rattle.centre.specs.Move.{move_answer}
use Rattle.launch.specs.Sphere.{sphere_answer}
use Rattle.launch.specs.declared.Sphere.{Sphere}
use Rattle.earth_fixed.specs.Fixed.{fixed_answer}
use Rattle.conic.specs.Conic.{conic_answer}
use Rattle.belfry_almanac.specs.Answers.{of_date, of_sine_cosine, of_position}
use Rattle.c_run.specs.Answers.{of_acceleration, of_injection, of_move}
use Rattle.c_earth.specs.Earth.{of_fixed, of_sphere}
use Rattle.c_conic.specs.Figures.{of_conic}
use Rattle.c_laws.specs.Table.{tabled, in_table, outcome_told}

pub number_told : (k : Refusal) → tabled (number_of k) ≡ true
number_told Refusal.Book = refl
number_told Refusal.Step = refl
number_told Refusal.Moment = refl
number_told Refusal.Setting = refl
number_told Refusal.Target = refl
number_told Refusal.Cover = refl
number_told Refusal.NotFinite = refl
number_told Refusal.Date = refl
number_told Refusal.Parabola = refl
number_told Refusal.StraightLine = refl
number_told Refusal.Root = refl
number_told Refusal.Angle = refl
number_told Refusal.Listing = refl
number_told Refusal.Centre = refl
number_told Refusal.Stored = refl
number_told Refusal.Short = refl
number_told Refusal.Large = refl
number_told Refusal.NotNext = refl

pub told : {A : Type 0} (answer : Result A Refusal) → in_table answer ≡ true
told (Ok value) = refl
told (Err k) = number_told k

outcome_is_told : (o : Outcome Refusal) → outcome_told o ≡ true
outcome_is_told Outcome.Arrived = refl
outcome_is_told Outcome.Going = refl
outcome_is_told (Outcome.Refused k) = number_told k

-- ---- call by call

pub date_told : (day : ℕ) → in_table (of_date (date_answer day)) ≡ true
date_told day = told (of_date (date_answer day))

pub day_told : (year month day : ℕ) → in_table (day_answer year month day) ≡ true
day_told year month day = told (day_answer year month day)

pub julian_told : (day : ℕ) → in_table (julian_answer day) ≡ true
julian_told day = told (julian_answer day)

pub sidereal_told : (rule moment dut : ℕ) → in_table (sidereal_answer rule moment dut) ≡ true
sidereal_told rule moment dut = told (sidereal_answer rule moment dut)

pub hour_told : (moment dut : ℕ) → in_table (hour_answer moment dut) ≡ true
hour_told moment dut = told (hour_answer moment dut)

pub root_told : (x : Float) → in_table (root_answer x) ≡ true
root_told x = told (root_answer x)

pub sine_cosine_told : (parts : ℕ) → in_table (of_sine_cosine (sine_cosine_answer parts)) ≡ true
sine_cosine_told parts = told (of_sine_cosine (sine_cosine_answer parts))

pub position_told : (b : List ℕ) (body t : ℕ) → in_table (of_position (position_answer b body t)) ≡ true
position_told b body t = told (of_position (position_answer b body t))

pub acceleration_told : (b : List ℕ) (s : Setting) (c t : ℕ) (P : Vector) → in_table (of_acceleration (acceleration_answer b s c t P)) ≡ true
acceleration_told b s c t P = told (of_acceleration (acceleration_answer b s c t P))

pub move_told : (b : List ℕ) (setting : Setting) (s : State) (c : ℕ) → in_table (of_move (move_answer b setting s c)) ≡ true
move_told b setting s c = told (of_move (move_answer b setting s c))

pub injection_told : (b : List ℕ) (setting : Setting) (i : Injection) → in_table (of_injection (stored_answer b setting i)) ≡ true
injection_told b setting i = told (of_injection (stored_answer b setting i))

pub run_told : (b : List ℕ) (setting : Setting) (s : State) (h target budget : ℕ) (given : Guesses)
    → outcome_told (run_answer b setting s h target budget given).outcome ≡ true
run_told b setting s h target budget given = outcome_is_told (run_answer b setting s h target budget given).outcome

pub single_step_told : (b : List ℕ) (setting : Setting) (s : State) (h : ℕ) (given : Guesses)
    → outcome_told (single_step_answer b setting s h given).outcome ≡ true
single_step_told b setting s h given = run_told b setting s h (s.moment + h) 1 given

pub fixed_told : (rule dut : ℕ) (state : State) → in_table (of_fixed (fixed_answer rule dut state)) ≡ true
fixed_told rule dut state = told (of_fixed (fixed_answer rule dut state))

pub from_sphere_told : (s : Sphere) (rule moment dut : ℕ) → in_table (of_sphere (sphere_answer s rule moment dut)) ≡ true
from_sphere_told s rule moment dut = told (of_sphere (sphere_answer s rule moment dut))

pub conic_told : (m : Float) (state : State) → in_table (of_conic (conic_answer m state)) ≡ true
conic_told m state = told (of_conic (conic_answer m state))
