-- Any two outcomes that the promise of a call with the caller's memory allows are equal: the returned number and all the memory that it may
-- write, together. Assumes nothing.
use mathlib.Core.List.{List}
use mathlib.Core.Path.{refl}
use lib.Ieee.{Float}
use denote.RattleType.{RattleType}
use mir.Syntax.{Dict}
use Rattle.std.specs.declared.clone.Clone as clone
use Rattle.base.specs.declared.Reason.{Ghosts}
use Rattle.base.proofs.OneAnswer.{Tell, OneOutcome, one_outcome}
use Rattle.gravity.specs.Acceleration.{acceleration_answer}
use Rattle.gravity_stored.specs.Injection.{injection_answer}
use Rattle.earth_fixed.specs.Fixed.{fixed_answer}
use Rattle.conic.specs.Conic.{conic_answer}
use Rattle.c_answer.specs.Handed.{Handed, handed, answered}
use Rattle.c_run.specs.Lent.{setting_of, vector_of, injection_of, unkept_of}
use Rattle.c_earth.specs.Earth.{of_fixed}
use Rattle.c_conic.specs.Figures.{Both, both_in, of_conic}
use Rattle.c_run.specs.Answers.{of_acceleration, of_injection, RunMemory, run_memory, of_run_by, of_flight_by}
use Rattle.c_gravity.specs.contracts.pull as pull
use Rattle.c_gravity.specs.contracts.inject as inject
use Rattle.c_earth.specs.contracts.turned as turned
use Rattle.c_conic.specs.contracts.orbit as orbit
use Rattle.c_run.specs.contracts.hand_back as hand_back
use Rattle.c_run.specs.contracts.hand_back_whole as hand_back_whole

abbrev tell_pull : Tell pull.ended (λ κs. Handed (List Float))
tell_pull κs r after = handed r after.1.1.1.1.1.1.1.1.0.now

pub pull_answers_once : OneOutcome pull.ended (λ M 𝓤 𝓛. pull.clauses 𝓛) (λ κs. Handed (List Float)) tell_pull
pull_answers_once =
    one_outcome (λ κs. Handed (List Float)) tell_pull
    (λ κs inputs.
    let setting = setting_of inputs.1.0.now inputs.1.1.0.now inputs.1.1.1.0 inputs.1.1.1.1.0 in
    let rest = inputs.1.1.1.1.1 in
    answered rest.1.1.1.0.now (of_acceleration (acceleration_answer inputs.0.now setting rest.1.0 rest.0 (vector_of rest.1.1.0.now))))
    (λ M 𝓤 𝓛 mem run κs inputs g r after. refl)

abbrev tell_inject : Tell inject.ended (λ κs. Handed (List Float))
tell_inject κs r after = handed r after.1.1.1.1.1.1.1.1.0.now

pub inject_answers_once : OneOutcome inject.ended (λ M 𝓤 𝓛. inject.clauses 𝓛) (λ κs. Handed (List Float)) tell_inject
inject_answers_once =
    one_outcome (λ κs. Handed (List Float)) tell_inject
    (λ κs inputs.
    let setting = setting_of inputs.1.0.now inputs.1.1.0.now inputs.1.1.1.0 inputs.1.1.1.1.0 in
    let rest = inputs.1.1.1.1.1 in
    answered rest.1.1.1.0.now (of_injection (injection_answer inputs.0.now setting (injection_of rest.0 rest.1.0 rest.1.1.0.now))))
    (λ M 𝓤 𝓛 mem run κs inputs g r after. refl)

abbrev tell_turned : Tell turned.ended (λ κs. Handed (List Float))
tell_turned κs r after = handed r after.1.1.1.1.1.0.now

pub turned_answers_once : OneOutcome turned.ended (λ M 𝓤 𝓛. turned.clauses 𝓛) (λ κs. Handed (List Float)) tell_turned
turned_answers_once =
    one_outcome (λ κs. Handed (List Float)) tell_turned
    (λ κs inputs.
    let rest = inputs.1.1 in
    answered rest.1.1.1.0.now (of_fixed (fixed_answer inputs.0 inputs.1.0 (unkept_of rest.0 rest.1.0 rest.1.1.0.now))))
    (λ M 𝓤 𝓛 mem run κs inputs g r after. refl)

abbrev tell_orbit : Tell orbit.ended (λ κs. Handed Both)
tell_orbit κs r after = handed r (both_in after.1.1.1.1.0.now after.1.1.1.1.1.0.now)

pub orbit_answers_once : OneOutcome orbit.ended (λ M 𝓤 𝓛. orbit.clauses 𝓛) (λ κs. Handed Both) tell_orbit
orbit_answers_once =
    one_outcome (λ κs. Handed Both) tell_orbit
    (λ κs inputs.
    let out = inputs.1.1.1.1 in
    answered (both_in out.0.now out.1.0.now) (of_conic (conic_answer inputs.0 (unkept_of inputs.1.0 inputs.1.1.0 inputs.1.1.1.0.now))))
    (λ M 𝓤 𝓛 mem run κs inputs g r after. refl)

abbrev tell_run : (R : RattleType) (g : Ghosts R.Denot) (d : Dict) (copied : clone.Ghosts R.Denot) (d' : Dict) → Tell (hand_back.ended R g d copied d') (λ κs. RunMemory)
tell_run R g d copied d' κs r after = let out = after.1 in run_memory r out.0.now out.1.0.now out.1.1.0.now out.1.1.1.0.now

pub hand_back_answers_once : (R : RattleType) (g : Ghosts R.Denot) (d : Dict) (copied : clone.Ghosts R.Denot) (d' : Dict) → OneOutcome (hand_back.ended R g d copied d') (λ M 𝓤 𝓛. hand_back.clauses R g d copied d' 𝓛) (λ κs. RunMemory) (tell_run R g d copied d')
hand_back_answers_once R g d copied d' =
    one_outcome (λ κs. RunMemory) (tell_run R g d copied d') (λ κs inputs. of_run_by g.told inputs.0) (λ M 𝓤 𝓛 mem run κs inputs g' r after. refl)

abbrev tell_flight : (R : RattleType) (g : Ghosts R.Denot) (d : Dict) (copied : clone.Ghosts R.Denot) (d' : Dict) → Tell (hand_back_whole.ended R g d copied d') (λ κs. RunMemory)
tell_flight R g d copied d' κs r after = let out = after.1 in run_memory r out.0.now out.1.0.now out.1.1.0.now out.1.1.1.0.now

pub hand_back_whole_answers_once : (R : RattleType) (g : Ghosts R.Denot) (d : Dict) (copied : clone.Ghosts R.Denot) (d' : Dict) → OneOutcome (hand_back_whole.ended R g d copied d') (λ M 𝓤 𝓛. hand_back_whole.clauses R g d copied d' 𝓛) (λ κs. RunMemory) (tell_flight R g d copied d')
hand_back_whole_answers_once R g d copied d' =
    one_outcome (λ κs. RunMemory) (tell_flight R g d copied d') (λ κs inputs. of_flight_by g.told inputs.0) (λ M 𝓤 𝓛 mem run κs inputs g' r after. refl)
