-- Journeys of demand 3, fed to the pane. Assumes nothing.
use mathlib.Core.List.{List, [], ◌∷◌}
use mathlib.Core.Logic.{inl}
use mathlib.Core.Path.{◌≡◌, refl}
use Prim.Native.Nat.{ℕ, ◌<◌}
use Rattle.std.specs.Prelude.{Ok, Err}
use Rattle.base.specs.declared.Refusal.{Refusal}
use Rattle.state.specs.declared.State.{State}
use Rattle.state.specs.declared.Setting.{Setting}
use Rattle.state.specs.declared.Vector.{Vector}
use Rattle.run.specs.Step.{step}
use Rattle.run.specs.Walk.{walk}
use Rattle.run.specs.Run.{run_answer}
use Rattle.run_laws.specs.Journey.{Call, journey}
use Rattle.run_laws.specs.Journey as journeys
use Rattle.centre_laws.specs.Legs.{Move, walk_with_moves}
use Rattle.pane_live.specs.Pane.{take, feed, clear, after, frame_at}
use Rattle.pane_live.specs.Laws.{fed}
use Rattle.pane_live.specs.declared.Pane.{Pane}
use Rattle.pane_live.specs.declared.FrameAnswer.TheVariants as frame
use Rattle.pane_laws.specs.Desk.{InHand, Desk, begins, runs, offers}
use Rattle.pane_laws.specs.OnAir.{OnAir, OffAir}
use Rattle.pane_laws.specs.Night.{pane_of_journey}
use Rattle.pane_laws.proofs.Shown.{on_air, off_air}

-- a desk whose pane is known, with these states in hand at least
pub record DeskWith (setting : Setting) (h : ℕ) (injection : State) (b : List ℕ) (made : List Move) (s : State) (pane : Pane) : Type 0 where
  pub hand : List State
  pub desk : Desk setting h injection b made hand pane
  pub holds : InHand s hand

module _ (setting : Setting) (h : ℕ) (injection : State) (b : List ℕ) (made : List Move) where
  -- a desk that flies a journey and feeds every answer, and has the last state in hand
  pub flies : (target : ℕ) (s : State) (pane : Pane) (calls : List Call) → DeskWith setting h injection b made s pane
      → DeskWith setting h injection b made (journeys.after b setting h target s calls) (fed pane (journey b setting h target s calls))
  flies target s pane [] d = d
  flies target s pane (call ∷ calls) d =
      let r = run_answer b setting s h target call.budget call.guesses in
      flies target r.state (after pane (feed pane r)) calls
      (record {
        hand = r.state ∷ d.hand;
        desk = runs b made d.hand pane s target call.budget call.guesses d.desk d.holds;
        holds = inl refl;
      })

-- the desk that has offered the injection to an empty pane
pub ready : (setting : Setting) (h : ℕ) (injection : State) (b : List ℕ) → DeskWith setting h injection b [] injection (after clear (take clear injection))
ready setting h injection b =
    record { hand = injection ∷ []; desk = offers b [] (injection ∷ []) clear injection (begins b) (inl refl); holds = inl refl }

module _ (setting : Setting) (h target : ℕ) (injection : State) (b : List ℕ) (calls : List Call) where
  -- for all budgets and guesses of the calls, and whether the checks of the run pass or not
  pub journey_on_air : (t : ℕ) (p : Vector) → frame_at (pane_of_journey b setting h target injection calls) t ≡ frame.Current p → OnAir b setting h injection [] t p
  journey_on_air t p e =
      let d = flies setting h injection b [] target injection (after clear (take clear injection)) calls (ready setting h injection b) in
      on_air setting h injection b [] d.hand (pane_of_journey b setting h target injection calls) d.desk t p e

  -- past the last state that the plain walk reaches, no figure
  pub journey_off_air : (last : State) (n : ℕ) (k : Refusal) (t : ℕ) → walk (step b setting h) n injection ≡ Ok last → step b setting h last ≡ Err k → last.moment < t
      → OffAir b setting h injection last t (frame_at (pane_of_journey b setting h target injection calls) t)
  unfolding walk_with_moves
  journey_off_air last n k t walked off past =
      let d = flies setting h injection b [] target injection (after clear (take clear injection)) calls (ready setting h injection b) in
      off_air setting h injection b [] d.hand (pane_of_journey b setting h target injection calls) d.desk injection last n k t refl walked off past
