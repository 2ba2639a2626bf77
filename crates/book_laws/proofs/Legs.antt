-- Journeys with moves under a fuller book: legs that are flown from one state to another under the first are flown so under the second.
-- Assumes nothing.
use mathlib.Core.Bool.{true}
use mathlib.Core.List.{List, [], ◌∷◌}
use mathlib.Core.Logic.{inl, inr}
use mathlib.Core.Path.{◌≡◌, refl, sym, ap, ◌∙◌, subst}
use Prim.Native.Nat.{ℕ}
use native.Mathlib.Omega.{arith}
use Rattle.base.specs.declared.Refusal.{Refusal}
use Rattle.std.specs.Prelude.{Ok, Err}
use Rattle.state.specs.declared.State.{State}
use Rattle.state.specs.declared.Setting.{Setting}
use Rattle.book.specs.Passes.{passes}
use Rattle.run_checks.specs.Start.{start_checks}
use Rattle.run_checks.proofs.Passed.{passed, passes_all}
use Rattle.run.specs.Step.{step}
use Rattle.run.specs.Run.{run_to, run_answer}
use Rattle.centre.specs.Move.{move_answer}
use Rattle.run_laws.specs.Journey.{Call, after}
use Rattle.run_laws.proofs.Answers.{answer_is, checks_stay}
use Rattle.run_laws.proofs.Again.{is_stuck}
use Rattle.run_laws.proofs.Enough.{after_stuck}
use Rattle.centre_laws.specs.Legs.{Leg, MayFly, Flown, no_leg, leg}
use Rattle.book_laws.specs.Fuller.{HoldsAll, Unless, FullerRun, SameBudgets, SameLeg, SameLegs}
use Rattle.book_laws.proofs.Runs.{start_fuller}
use Rattle.book_laws.proofs.Journeys.{run_alongside}
use Rattle.book_laws.proofs.Walks.{moved_fuller}

module _ (b c : List ℕ) (holds : HoldsAll b c) (first : passes b ≡ true) (second : passes c ≡ true) (setting : Setting) (h : ℕ) where
  starts : (target : ℕ) (s : State) → start_checks b setting s h target ≡ Ok tt → start_checks c setting s h target ≡ Ok tt
  starts target s e = go (start_fuller b c holds first second setting h target s)
    where
      go : Unless (Err Refusal.Cover) (start_checks b setting s h target) (start_checks c setting s h target) → start_checks c setting s h target ≡ Ok tt
      go (inl six) = let z : ◌≡◌ {A = ℕ} 0 1 = cc in absurd (omega arith)
      go (inr alike) = sym alike ∙ e

  -- the checks pass at the state at which a call stopped
  goes_on : (target : ℕ) (s : State) (call : Call) → start_checks b setting s h target ≡ Ok tt
      → start_checks b setting (run_answer b setting s h target call.budget call.guesses).state h target ≡ Ok tt
  goes_on target s call e =
      rw (answer_is b setting s h target call.budget call.guesses e)
      (passes_all b setting (run_to (step b setting h) target call.budget s).state h target (checks_stay b setting h target s call.budget (passed b setting s h target e)))

  -- calls that arrive under the first book reach the same state under the second: "Guesses may differ"
  pub after_fuller : (target : ℕ) (s : State) (calls others : List Call) → SameBudgets calls others → MayFly b setting h s target calls
      → (after b setting h target s calls).moment ≡ target → after b setting h target s calls ≡ after c setting h target s others
  after_fuller target s [] [] alike may at = refl
  after_fuller target s [] (other ∷ others) alike may at = absurd alike
  after_fuller target s (call ∷ calls) [] alike may at = absurd alike
  after_fuller target s (call ∷ calls) (other ∷ others) alike e at =
      go (run_alongside b c holds first second setting h target s call other alike.0)
      (after_fuller target (run_answer b setting s h target call.budget call.guesses).state calls others alike.1 (flies calls (goes_on target s call e)))
    where
      flies : (calls : List Call) → start_checks b setting (run_answer b setting s h target call.budget call.guesses).state h target ≡ Ok tt
          → MayFly b setting h (run_answer b setting s h target call.budget call.guesses).state target calls
      flies [] e = tt
      flies (call ∷ calls) e = e

      go : FullerRun b c setting h s (run_answer b setting s h target call.budget call.guesses) (run_answer c setting s h target other.budget other.guesses)
          → ((after b setting h target (run_answer b setting s h target call.budget call.guesses).state calls).moment ≡ target
          → after b setting h target (run_answer b setting s h target call.budget call.guesses).state calls
          ≡ after c setting h target (run_answer b setting s h target call.budget call.guesses).state others)
          → after b setting h target s (call ∷ calls) ≡ after c setting h target s (other ∷ others)
      go (inl alike) later = later at ∙ ap (λ (x : State). after c setting h target x others) alike.state
      go (inr further) later =
          let stuck = is_stuck b setting h target s call.budget call.guesses Refusal.Cover e further.uncovered in
          let same = after_stuck b setting h target Refusal.Cover _ calls stuck in
          absurd (stuck.short (sym (ap (λ (x : State). x.moment) same) ∙ at))

  may_fly : (target : ℕ) (s : State) (calls others : List Call) → SameBudgets calls others → MayFly b setting h s target calls → MayFly c setting h s target others
  may_fly target s [] [] alike may = tt
  may_fly target s [] (other ∷ others) alike may = absurd alike
  may_fly target s (call ∷ calls) [] alike may = absurd alike
  may_fly target s (call ∷ calls) (other ∷ others) alike may = starts target s may

  -- one leg, to the same target and the same centre
  module _ (s next : State) (l k : Leg) (alike : SameLeg l k) (may : MayFly b setting h s l.target l.calls)
      (at : (after b setting h l.target s l.calls).moment ≡ l.target)
      (moved : move_answer b setting (after b setting h l.target s l.calls) l.centre ≡ Ok next) where
    there : after b setting h l.target s l.calls ≡ after c setting h k.target s k.calls
    there =
        after_fuller l.target s l.calls k.calls alike.calls may at
        ∙ ap (λ (t : ℕ). after c setting h t s k.calls) alike.target

    one_leg : (last : State) (legs : List Leg) → Flown c setting h next legs last → Flown c setting h s (k ∷ legs) last
    one_leg last legs later =
        leg s next last k legs
        (subst (λ (t : ℕ). MayFly c setting h s t k.calls) alike.target (may_fly l.target s l.calls k.calls alike.calls may))
        (ap (λ (x : State). x.moment) (sym there) ∙ at ∙ alike.target)
        (ap (λ (x : State). move_answer c setting x k.centre) (sym there)
        ∙ ap (λ (n : ℕ). move_answer c setting (after b setting h l.target s l.calls) n) (sym alike.centre)
        ∙ moved_fuller b c holds second setting h (after b setting h l.target s l.calls) l.centre next moved)
        later

  pub legs_fuller : (s last : State) (legs others : List Leg) → SameLegs legs others → Flown b setting h s legs last → Flown c setting h s others last
  legs_fuller s last legs [] alike (no_leg s') = no_leg s'
  legs_fuller s last legs (other ∷ others) alike (no_leg s') = absurd alike
  legs_fuller s last legs [] alike (leg s' next last' l rest may at moved later) = absurd alike
  legs_fuller s last legs (other ∷ others) alike (leg s' next last' l rest may at moved later) =
      one_leg s next l other alike.0 may at moved last others (legs_fuller next last rest others alike.1 later)
