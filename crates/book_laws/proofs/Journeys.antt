-- Document 02, R-12: journeys under a fuller book, and the request's two sentences. Assumes nothing.
use mathlib.Core.Bool.{true}
use mathlib.Core.List.{List, [], ◌∷◌}
use mathlib.Core.Logic.{inl, inr}
use mathlib.Core.Path.{◌≡◌, sym, ◌∙◌, subst}
use Prim.Native.Nat.{ℕ, ◌≤◌}
use native.Mathlib.Omega.{arith}
use Rattle.base.specs.declared.Refusal.{Refusal}
use Rattle.state.specs.declared.State.{State}
use Rattle.state.specs.declared.Setting.{Setting}
use Rattle.book.specs.Passes.{passes}
use Rattle.gravity.specs.declared.Guesses.{Guesses}
use Rattle.run.specs.Run.{run_answer}
use Rattle.run.specs.declared.Outcome.TheVariants.{Arrived, Refused}
use Rattle.run_laws.specs.Journey.{Call, journey}
use Rattle.book_laws.specs.Fuller.{HoldsAll, FullerRun, Alongside, none, same, gap, SameBudgets}
use Rattle.book_laws.proofs.Runs.{run_fuller}

module _ (b c : List ℕ) (holds : HoldsAll b c) (first : passes b ≡ true) (second : passes c ≡ true) (setting : Setting) (h target : ℕ) where
  module _ (s : State) (budget : ℕ) (given other : Guesses) where
    -- "every run that arrives with the first arrives with the second, same bits, same count"
    pub arrives_with_both : (run_answer b setting s h target budget given).outcome ≡ Arrived
        → ((run_answer c setting s h target budget other).outcome ≡ Arrived)
        × ((run_answer c setting s h target budget other).state ≡ (run_answer b setting s h target budget given).state)
        × ((run_answer c setting s h target budget other).steps ≡ (run_answer b setting s h target budget given).steps)
    arrives_with_both arrived = go (run_fuller b c holds first second setting h target s budget given other)
      where
        go : FullerRun b c setting h s (run_answer b setting s h target budget given) (run_answer c setting s h target budget other)
            → ((run_answer c setting s h target budget other).outcome ≡ Arrived)
            × ((run_answer c setting s h target budget other).state ≡ (run_answer b setting s h target budget given).state)
            × ((run_answer c setting s h target budget other).steps ≡ (run_answer b setting s h target budget given).steps)
        go (inl alike) = (sym alike.outcome ∙ arrived, sym alike.state, sym alike.steps)
        go (inr further) =
            let clash : Arrived ≡ Refused Refusal.Cover = sym arrived ∙ further.uncovered in
            let z : ◌≡◌ {A = ℕ} 0 1 = cc in absurd (omega arith)

    -- "a run refused under the first goes at least as many steps under the second"
    pub goes_as_far : (k : Refusal) → (run_answer b setting s h target budget given).outcome ≡ Refused k
        → (run_answer b setting s h target budget given).steps ≤ (run_answer c setting s h target budget other).steps
    goes_as_far k refused = go (run_fuller b c holds first second setting h target s budget given other)
      where
        go : FullerRun b c setting h s (run_answer b setting s h target budget given) (run_answer c setting s h target budget other)
            → (run_answer b setting s h target budget given).steps ≤ (run_answer c setting s h target budget other).steps
        go (inl alike) = let e = alike.steps in omega arith
        go (inr further) = further.further

  -- a run with the budget of another call
  pub run_alongside : (s : State) (call other : Call) → call.budget ≡ other.budget
      → FullerRun b c setting h s (run_answer b setting s h target call.budget call.guesses) (run_answer c setting s h target other.budget other.guesses)
  run_alongside s call other e =
      subst
      (λ (n : ℕ). FullerRun b c setting h s (run_answer b setting s h target call.budget call.guesses) (run_answer c setting s h target n other.guesses))
      e
      (run_fuller b c holds first second setting h target s call.budget call.guesses other.guesses)

  -- a journey of several calls: "Guesses may differ"
  pub journey_fuller : (s : State) (calls others : List Call) → SameBudgets calls others
      → Alongside b c setting h s (journey b setting h target s calls) (journey c setting h target s others)
  journey_fuller s [] [] e = none s
  journey_fuller s [] (other ∷ others) e = absurd e
  journey_fuller s (call ∷ calls) [] e = absurd e
  journey_fuller s (call ∷ calls) (other ∷ others) e =
      go (run_alongside s call other e.0) (journey_fuller (run_answer b setting s h target call.budget call.guesses).state calls others e.1)
    where
      go : FullerRun b c setting h s (run_answer b setting s h target call.budget call.guesses) (run_answer c setting s h target other.budget other.guesses)
          → Alongside b c setting h (run_answer b setting s h target call.budget call.guesses).state
          (journey b setting h target (run_answer b setting s h target call.budget call.guesses).state calls)
          (journey c setting h target (run_answer b setting s h target call.budget call.guesses).state others)
          → Alongside b c setting h s (journey b setting h target s (call ∷ calls)) (journey c setting h target s (other ∷ others))
      go (inr further) later = gap s _ _ _ _ further
      go (inl alike) later =
          same s _ _ _ _ alike
          (subst
          (λ (x : State).
          Alongside b c setting h (run_answer b setting s h target call.budget call.guesses).state
          (journey b setting h target (run_answer b setting s h target call.budget call.guesses).state calls)
          (journey c setting h target x others))
          alike.state later)
