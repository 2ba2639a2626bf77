-- Any two outcomes that the promise of an exported call of the pane allows are equal: the returned number and all the memory that it may
-- write, together. Assumes nothing.
use mathlib.Core.Path.{refl}
use Rattle.base.proofs.OneAnswer.{Tell, OneOutcome, one_outcome}
use Rattle.c_answer.specs.Handed.{Handed, handed}
use Rattle.c_run.specs.Lent.{state_of}
use Rattle.pane_live.specs.Pane.{take, clear, frame_at}
use Rattle.pane_motion.specs.Motion.{motion_at}
use Rattle.c_pane.specs.Lent.{Kept, kept_in, pane_of, pane_in, fed_with, left}
use Rattle.belfry_pane.specs.Answers.{FrameMemory, framed, of_frame, MotionMemory, in_motion, of_motion}
use Rattle.belfry_pane.specs.contracts.belfry_clear as clear_call
use Rattle.belfry_pane.specs.contracts.belfry_take as take_call
use Rattle.belfry_pane.specs.contracts.belfry_feed as feed_call
use Rattle.belfry_pane.specs.contracts.belfry_frame as frame_call
use Rattle.belfry_pane.specs.contracts.belfry_frame_motion as motion_call

abbrev tell_clear : Tell clear_call.ended (λ κs. Handed Kept)
tell_clear κs r after = handed r (kept_in after.0.now after.1.0.now)

pub clear_answers_once : OneOutcome clear_call.ended (λ M 𝓤 𝓛. clear_call.clauses 𝓛) (λ κs. Handed Kept) tell_clear
clear_answers_once =
    one_outcome (λ κs. Handed Kept) tell_clear (λ κs inputs. handed 0 (pane_in clear)) (λ M 𝓤 𝓛 mem run κs inputs g r after. refl)

abbrev tell_take : Tell take_call.ended (λ κs. Handed Kept)
tell_take κs r after = handed r (kept_in after.1.1.1.0.now after.1.1.1.1.0.now)

pub take_answers_once : OneOutcome take_call.ended (λ M 𝓤 𝓛. take_call.clauses 𝓛) (λ κs. Handed Kept) tell_take
take_answers_once =
    one_outcome (λ κs. Handed Kept) tell_take
    (λ κs inputs.
    let numbers = inputs.1.1.1.0.now in
    let places = inputs.1.1.1.1.0.now in
    left (kept_in numbers places) (take (pane_of numbers places) (state_of inputs.0 inputs.1.0 inputs.1.1.0.now)))
    (λ M 𝓤 𝓛 mem run κs inputs g r after. refl)

abbrev tell_feed : Tell feed_call.ended (λ κs. Handed Kept)
tell_feed κs r after = handed r (kept_in after.1.1.1.1.0.now after.1.1.1.1.1.0.now)

pub feed_answers_once : OneOutcome feed_call.ended (λ M 𝓤 𝓛. feed_call.clauses 𝓛) (λ κs. Handed Kept) tell_feed
feed_answers_once =
    one_outcome (λ κs. Handed Kept) tell_feed
    (λ κs inputs.
    let numbers = inputs.1.1.1.1.0.now in
    let places = inputs.1.1.1.1.1.0.now in
    left (kept_in numbers places)
    (fed_with (pane_of numbers places) inputs.0 (state_of inputs.1.0 inputs.1.1.0 inputs.1.1.1.0.now)))
    (λ M 𝓤 𝓛 mem run κs inputs g r after. refl)

abbrev tell_frame : Tell frame_call.ended (λ κs. FrameMemory)
tell_frame κs r after = framed r after.1.1.1.0.now after.1.1.1.1.0.now

pub frame_answers_once : OneOutcome frame_call.ended (λ M 𝓤 𝓛. frame_call.clauses 𝓛) (λ κs. FrameMemory) tell_frame
frame_answers_once =
    one_outcome (λ κs. FrameMemory) tell_frame
    (λ κs inputs. of_frame (frame_at (pane_of inputs.0.now inputs.1.0.now) inputs.1.1.0))
    (λ M 𝓤 𝓛 mem run κs inputs g r after. refl)

abbrev tell_motion : Tell motion_call.ended (λ κs. MotionMemory)
tell_motion κs r after = in_motion r after.1.1.1.0.now after.1.1.1.1.0.now

pub motion_answers_once : OneOutcome motion_call.ended (λ M 𝓤 𝓛. motion_call.clauses 𝓛) (λ κs. MotionMemory) tell_motion
motion_answers_once =
    one_outcome (λ κs. MotionMemory) tell_motion
    (λ κs inputs. of_motion (motion_at (pane_of inputs.0.now inputs.1.0.now) inputs.1.1.0))
    (λ M 𝓤 𝓛 mem run κs inputs g r after. refl)
