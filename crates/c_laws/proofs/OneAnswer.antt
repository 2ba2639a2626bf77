-- Any two outcomes that the promise of an exported call allows are equal: the returned number and all the memory that it may write,
-- together. Assumes nothing.
use mathlib.Core.List.{List}
use mathlib.Core.Path.{refl}
use Prim.Native.Nat.{ℕ}
use lib.Ieee.{Float}
use Rattle.base.specs.Choice.{if◌then◌otherwise◌}
use Rattle.base.proofs.OneAnswer.{Tell, OneOutcome, OneAnswer, one_outcome, one_answer}
use Rattle.calendar.specs.Answers.{date_answer, day_answer, julian_answer}
use Rattle.hour.specs.Hour.{hour_answer, sidereal_answer}
use Rattle.root.specs.Root.{root_answer}
use Rattle.sine.specs.Sine.{sine_cosine_answer}
use Rattle.book.specs.Passes.{passes}
use Rattle.book.specs.Position.{position_answer}
use Rattle.gravity.specs.Acceleration.{acceleration_answer}
use Rattle.gravity_stored.specs.Injection.{injection_answer, launched}
use Rattle.run.specs.Run.{run_answer, single_step_answer}
use Rattle.earth_fixed.specs.Fixed.{fixed_answer}
use Rattle.launch.specs.Sphere.{sphere_answer}
use Rattle.conic.specs.Conic.{conic_answer}
use Rattle.c_answer.specs.Handed.{Handed, handed, answered}
use Rattle.belfry_almanac.specs.Answers.{of_date, of_sine_cosine, of_position}
use Rattle.c_run.specs.Lent.{setting_of, no_extras, vector_of, injection_of, state_of, unkept_of, guesses_of}
use Rattle.c_earth.specs.Earth.{sphere_of, of_fixed, of_sphere}
use Rattle.c_conic.specs.Figures.{Both, both_in, of_conic}
use Rattle.c_run.specs.Answers.{of_acceleration, of_injection, of_move, RunMemory, run_memory, of_run, of_flight}
use Rattle.belfry_almanac.specs.contracts.belfry_date as date
use Rattle.belfry_almanac.specs.contracts.belfry_day as day
use Rattle.belfry_almanac.specs.contracts.belfry_twice_julian_date as twice_julian_date
use Rattle.belfry_almanac.specs.contracts.belfry_hour_angle as hour_angle
use Rattle.belfry_almanac.specs.contracts.belfry_root as root
use Rattle.belfry_almanac.specs.contracts.belfry_sine_cosine as sine_cosine
use Rattle.belfry_almanac.specs.contracts.belfry_position as position
use Rattle.belfry_earth.specs.contracts.belfry_acceleration as acceleration
use Rattle.belfry_earth.specs.contracts.belfry_earth_fixed as earth_fixed
use Rattle.belfry_earth.specs.contracts.belfry_from_sphere as from_sphere
use Rattle.belfry_almanac.specs.contracts.belfry_sidereal as sidereal
use Rattle.belfry_centre.specs.contracts.belfry_turn as turn
use Rattle.belfry_centre.specs.contracts.belfry_pull as pull
use Rattle.belfry_centre.specs.contracts.belfry_inject as inject
use Rattle.belfry_centre.specs.contracts.belfry_fly as fly
use Rattle.belfry_centre.specs.contracts.belfry_move as move
use Rattle.belfry_centre.specs.contracts.belfry_orbit as orbit
use Rattle.centre.specs.Move.{move_answer}
use Rattle.belfry_almanac.specs.contracts.belfry_book_passes as book_passes
use Rattle.belfry_earth.specs.contracts.belfry_run as run
use Rattle.belfry_earth.specs.contracts.belfry_single_step as single_step
use Rattle.belfry_earth.specs.contracts.belfry_conic as conic

abbrev tell_date : Tell date.ended (λ κs. Handed (List ℕ))
tell_date κs r after = handed r after.1.0.now

pub date_answers_once : OneOutcome date.ended (λ M 𝓤 𝓛. date.clauses 𝓛) (λ κs. Handed (List ℕ)) tell_date
date_answers_once =
    one_outcome (λ κs. Handed (List ℕ)) tell_date
    (λ κs inputs. answered inputs.1.0.now (of_date (date_answer inputs.0)))
    (λ M 𝓤 𝓛 mem run'' κs inputs g r after. refl)

abbrev tell_day : Tell day.ended (λ κs. Handed (ℕ))
tell_day κs r after = handed r after.1.1.1.0.now

pub day_answers_once : OneOutcome day.ended (λ M 𝓤 𝓛. day.clauses 𝓛) (λ κs. Handed (ℕ)) tell_day
day_answers_once =
    one_outcome (λ κs. Handed (ℕ)) tell_day
    (λ κs inputs. answered inputs.1.1.1.0.now (day_answer inputs.0 inputs.1.0 inputs.1.1.0))
    (λ M 𝓤 𝓛 mem run'' κs inputs g r after. refl)

abbrev tell_twice_julian_date : Tell twice_julian_date.ended (λ κs. Handed (ℕ))
tell_twice_julian_date κs r after = handed r after.1.0.now

pub twice_julian_date_answers_once : OneOutcome twice_julian_date.ended (λ M 𝓤 𝓛. twice_julian_date.clauses 𝓛) (λ κs. Handed (ℕ)) tell_twice_julian_date
twice_julian_date_answers_once =
    one_outcome (λ κs. Handed (ℕ)) tell_twice_julian_date
    (λ κs inputs. answered inputs.1.0.now (julian_answer inputs.0))
    (λ M 𝓤 𝓛 mem run'' κs inputs g r after. refl)

abbrev tell_hour_angle : Tell hour_angle.ended (λ κs. Handed (ℕ))
tell_hour_angle κs r after = handed r after.1.1.0.now

pub hour_angle_answers_once : OneOutcome hour_angle.ended (λ M 𝓤 𝓛. hour_angle.clauses 𝓛) (λ κs. Handed (ℕ)) tell_hour_angle
hour_angle_answers_once =
    one_outcome (λ κs. Handed (ℕ)) tell_hour_angle
    (λ κs inputs. answered inputs.1.1.0.now (hour_answer inputs.0 inputs.1.0))
    (λ M 𝓤 𝓛 mem run'' κs inputs g r after. refl)

abbrev tell_root : Tell root.ended (λ κs. Handed (Float))
tell_root κs r after = handed r after.1.0.now

pub root_answers_once : OneOutcome root.ended (λ M 𝓤 𝓛. root.clauses 𝓛) (λ κs. Handed (Float)) tell_root
root_answers_once =
    one_outcome (λ κs. Handed (Float)) tell_root
    (λ κs inputs. answered inputs.1.0.now (root_answer inputs.0))
    (λ M 𝓤 𝓛 mem run'' κs inputs g r after. refl)

abbrev tell_sine_cosine : Tell sine_cosine.ended (λ κs. Handed (List Float))
tell_sine_cosine κs r after = handed r after.1.0.now

pub sine_cosine_answers_once : OneOutcome sine_cosine.ended (λ M 𝓤 𝓛. sine_cosine.clauses 𝓛) (λ κs. Handed (List Float)) tell_sine_cosine
sine_cosine_answers_once =
    one_outcome (λ κs. Handed (List Float)) tell_sine_cosine
    (λ κs inputs. answered inputs.1.0.now (of_sine_cosine (sine_cosine_answer inputs.0)))
    (λ M 𝓤 𝓛 mem run'' κs inputs g r after. refl)

abbrev tell_position : Tell position.ended (λ κs. Handed (List Float))
tell_position κs r after = handed r after.1.1.1.0.now

pub position_answers_once : OneOutcome position.ended (λ M 𝓤 𝓛. position.clauses 𝓛) (λ κs. Handed (List Float)) tell_position
position_answers_once =
    one_outcome (λ κs. Handed (List Float)) tell_position
    (λ κs inputs. answered inputs.1.1.1.0.now (of_position (position_answer inputs.0.now inputs.1.0 inputs.1.1.0)))
    (λ M 𝓤 𝓛 mem run'' κs inputs g r after. refl)

abbrev tell_acceleration : Tell acceleration.ended (λ κs. Handed (List Float))
tell_acceleration κs r after = handed r after.1.1.1.1.1.0.now

pub acceleration_answers_once : OneOutcome acceleration.ended (λ M 𝓤 𝓛. acceleration.clauses 𝓛) (λ κs. Handed (List Float)) tell_acceleration
acceleration_answers_once =
    one_outcome (λ κs. Handed (List Float)) tell_acceleration
    (λ κs inputs. answered inputs.1.1.1.1.1.0.now
    (of_acceleration (acceleration_answer inputs.0.now (setting_of inputs.1.0.now no_extras inputs.1.1.0 0) 1 inputs.1.1.1.0 (vector_of inputs.1.1.1.1.0.now))))
    (λ M 𝓤 𝓛 mem run'' κs inputs g r after. refl)

abbrev tell_from_sphere : Tell from_sphere.ended (λ κs. Handed (List Float))
tell_from_sphere κs r after = handed r after.1.1.1.1.1.0.now

pub from_sphere_answers_once : OneOutcome from_sphere.ended (λ M 𝓤 𝓛. from_sphere.clauses 𝓛) (λ κs. Handed (List Float)) tell_from_sphere
from_sphere_answers_once =
    one_outcome (λ κs. Handed (List Float)) tell_from_sphere
    (λ κs inputs. answered inputs.1.1.1.1.1.0.now (of_sphere (sphere_answer (sphere_of inputs.1.1.1.0.now inputs.1.1.1.1.0.now) inputs.0 inputs.1.0 inputs.1.1.0)))
    (λ M 𝓤 𝓛 mem run κs inputs g r after. refl)

abbrev tell_earth_fixed : Tell earth_fixed.ended (λ κs. Handed (List Float))
tell_earth_fixed κs r after = handed r after.1.1.1.0.now

pub earth_fixed_answers_once : OneOutcome earth_fixed.ended (λ M 𝓤 𝓛. earth_fixed.clauses 𝓛) (λ κs. Handed (List Float)) tell_earth_fixed
earth_fixed_answers_once =
    one_outcome (λ κs. Handed (List Float)) tell_earth_fixed
    (λ κs inputs. answered inputs.1.1.1.0.now (of_fixed (fixed_answer 0 inputs.1.1.0 (unkept_of inputs.0 1 inputs.1.0.now))))
    (λ M 𝓤 𝓛 mem run'' κs inputs g r after. refl)

abbrev tell_sidereal : Tell sidereal.ended (λ κs. Handed (ℕ))
tell_sidereal κs r after = handed r after.1.1.1.0.now

pub sidereal_answers_once : OneOutcome sidereal.ended (λ M 𝓤 𝓛. sidereal.clauses 𝓛) (λ κs. Handed (ℕ)) tell_sidereal
sidereal_answers_once =
    one_outcome (λ κs. Handed (ℕ)) tell_sidereal
    (λ κs inputs. answered inputs.1.1.1.0.now (sidereal_answer inputs.0 inputs.1.0 inputs.1.1.0))
    (λ M 𝓤 𝓛 mem run'' κs inputs g r after. refl)

abbrev tell_turn : Tell turn.ended (λ κs. Handed (List Float))
tell_turn κs r after = handed r after.1.1.1.1.1.0.now

pub turn_answers_once : OneOutcome turn.ended (λ M 𝓤 𝓛. turn.clauses 𝓛) (λ κs. Handed (List Float)) tell_turn
turn_answers_once =
    one_outcome (λ κs. Handed (List Float)) tell_turn
    (λ κs inputs. answered inputs.1.1.1.1.1.0.now (of_fixed (fixed_answer inputs.0 inputs.1.0 (unkept_of inputs.1.1.0 inputs.1.1.1.0 inputs.1.1.1.1.0.now))))
    (λ M 𝓤 𝓛 mem run'' κs inputs g r after. refl)

abbrev tell_pull : Tell pull.ended (λ κs. Handed (List Float))
tell_pull κs r after = handed r after.1.1.1.1.1.1.1.1.0.now

pub pull_answers_once : OneOutcome pull.ended (λ M 𝓤 𝓛. pull.clauses 𝓛) (λ κs. Handed (List Float)) tell_pull
pull_answers_once =
    one_outcome (λ κs. Handed (List Float)) tell_pull
    (λ κs inputs.
    answered inputs.1.1.1.1.1.1.1.1.0.now
    (of_acceleration
    (acceleration_answer inputs.0.now (setting_of inputs.1.0.now inputs.1.1.0.now inputs.1.1.1.0 inputs.1.1.1.1.0)
    inputs.1.1.1.1.1.1.0 inputs.1.1.1.1.1.0 (vector_of inputs.1.1.1.1.1.1.1.0.now))))
    (λ M 𝓤 𝓛 mem run'' κs inputs g r after. refl)

abbrev tell_inject : Tell inject.ended (λ κs. Handed (List Float))
tell_inject κs r after = handed r after.1.1.1.1.1.1.1.1.0.now

pub inject_answers_once : OneOutcome inject.ended (λ M 𝓤 𝓛. inject.clauses 𝓛) (λ κs. Handed (List Float)) tell_inject
inject_answers_once =
    one_outcome (λ κs. Handed (List Float)) tell_inject
    (λ κs inputs.
    answered inputs.1.1.1.1.1.1.1.1.0.now
    (of_injection
    (injection_answer inputs.0.now (setting_of inputs.1.0.now inputs.1.1.0.now inputs.1.1.1.0 inputs.1.1.1.1.0)
    (injection_of inputs.1.1.1.1.1.0 inputs.1.1.1.1.1.1.0 inputs.1.1.1.1.1.1.1.0.now))))
    (λ M 𝓤 𝓛 mem run'' κs inputs g r after. refl)

abbrev tell_move : Tell move.ended (λ κs. Handed (List Float))
tell_move κs r after = handed r after.1.1.1.1.1.1.1.1.1.0.now

pub move_answers_once : OneOutcome move.ended (λ M 𝓤 𝓛. move.clauses 𝓛) (λ κs. Handed (List Float)) tell_move
move_answers_once =
    one_outcome (λ κs. Handed (List Float)) tell_move
    (λ κs inputs.
    answered inputs.1.1.1.1.1.1.1.1.1.0.now
    (of_move
    (move_answer inputs.0.now (setting_of inputs.1.0.now inputs.1.1.0.now inputs.1.1.1.0 inputs.1.1.1.1.0)
    (state_of inputs.1.1.1.1.1.0 inputs.1.1.1.1.1.1.0 inputs.1.1.1.1.1.1.1.0.now) inputs.1.1.1.1.1.1.1.1.0)))
    (λ M 𝓤 𝓛 mem run'' κs inputs g r after. refl)

abbrev tell_fly : Tell fly.ended (λ κs. RunMemory)
tell_fly κs r after =
    let out = after.1.1.1.1.1.1.1.1.1.1.1.1 in run_memory r out.0.now out.1.0.now out.1.1.0.now out.1.1.1.0.now

pub fly_answers_once : OneOutcome fly.ended (λ M 𝓤 𝓛. fly.clauses 𝓛) (λ κs. RunMemory) tell_fly
fly_answers_once =
    one_outcome (λ κs. RunMemory) tell_fly
    (λ κs inputs.
    let rest = inputs.1.1.1.1.1.1.1.1 in
    of_flight
    (run_answer inputs.0.now (setting_of inputs.1.0.now inputs.1.1.0.now inputs.1.1.1.0 inputs.1.1.1.1.0)
    (state_of inputs.1.1.1.1.1.0 inputs.1.1.1.1.1.1.0 inputs.1.1.1.1.1.1.1.0.now) rest.0
    rest.1.0 rest.1.1.0 (guesses_of rest.1.1.1.0.now)))
    (λ M 𝓤 𝓛 mem run'' κs inputs g r after. refl)

abbrev tell_orbit : Tell orbit.ended (λ κs. Handed Both)
tell_orbit κs r after = handed r (both_in after.1.1.1.1.0.now after.1.1.1.1.1.0.now)

pub orbit_answers_once : OneOutcome orbit.ended (λ M 𝓤 𝓛. orbit.clauses 𝓛) (λ κs. Handed Both) tell_orbit
orbit_answers_once =
    one_outcome (λ κs. Handed Both) tell_orbit
    (λ κs inputs.
    answered (both_in inputs.1.1.1.1.0.now inputs.1.1.1.1.1.0.now) (of_conic (conic_answer inputs.0 (unkept_of inputs.1.0 inputs.1.1.0 inputs.1.1.1.0.now))))
    (λ M 𝓤 𝓛 mem run'' κs inputs g r after. refl)

abbrev tell_conic : Tell conic.ended (λ κs. Handed Both)
tell_conic κs r after = handed r (both_in after.1.1.1.0.now after.1.1.1.1.0.now)

pub conic_answers_once : OneOutcome conic.ended (λ M 𝓤 𝓛. conic.clauses 𝓛) (λ κs. Handed Both) tell_conic
conic_answers_once =
    one_outcome (λ κs. Handed Both) tell_conic
    (λ κs inputs.
    answered (both_in inputs.1.1.1.0.now inputs.1.1.1.1.0.now) (of_conic (conic_answer inputs.0 (unkept_of inputs.1.0 1 inputs.1.1.0.now))))
    (λ M 𝓤 𝓛 mem run'' κs inputs g r after. refl)

pub book_passes_answers_once : OneAnswer book_passes.ended (λ M 𝓤 𝓛. book_passes.clauses 𝓛)
book_passes_answers_once =
    one_answer (λ κs inputs. if passes inputs.0.now then 0 otherwise 1) (λ M 𝓤 𝓛 mem run'' κs inputs g r after. refl)

-- what a run or a single step returns, and the four places that it writes
abbrev tell_run : Tell run.ended (λ κs. RunMemory)
tell_run κs r after =
    let out = after.1.1.1.1.1.1.1.1.1 in run_memory r out.0.now out.1.0.now out.1.1.0.now out.1.1.1.0.now

pub run_answers_once : OneOutcome run.ended (λ M 𝓤 𝓛. run.clauses 𝓛) (λ κs. RunMemory) tell_run
run_answers_once =
    one_outcome (λ κs. RunMemory) tell_run
    (λ κs inputs.
    let rest = inputs.1.1.1.1.1 in
    let setting = setting_of inputs.1.0.now no_extras inputs.1.1.0 0 in
    of_run
    (run_answer inputs.0.now setting (launched inputs.0.now setting (injection_of inputs.1.1.1.0 1 inputs.1.1.1.1.0.now)) rest.0
    rest.1.0 rest.1.1.0 (guesses_of rest.1.1.1.0.now)))
    (λ M 𝓤 𝓛 mem run'' κs inputs g r after. refl)

abbrev tell_single_step : Tell single_step.ended (λ κs. RunMemory)
tell_single_step κs r after =
    let out = after.1.1.1.1.1.1.1 in run_memory r out.0.now out.1.0.now out.1.1.0.now out.1.1.1.0.now

pub single_step_answers_once : OneOutcome single_step.ended (λ M 𝓤 𝓛. single_step.clauses 𝓛) (λ κs. RunMemory) tell_single_step
single_step_answers_once =
    one_outcome (λ κs. RunMemory) tell_single_step
    (λ κs inputs.
    let rest = inputs.1.1.1.1.1 in
    let setting = setting_of inputs.1.0.now no_extras inputs.1.1.0 0 in
    of_run
    (single_step_answer inputs.0.now setting (launched inputs.0.now setting (injection_of inputs.1.1.1.0 1 inputs.1.1.1.1.0.now)) rest.0
    (guesses_of rest.1.0.now)))
    (λ M 𝓤 𝓛 mem run'' κs inputs g r after. refl)
