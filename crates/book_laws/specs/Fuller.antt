-- Document 02, R-12: "if a second passing book holds every entry of the first with the same coefficients, then every run that arrives with
-- the first arrives with the second, same bits, same count; and a run refused under the first goes at least as many steps under the
-- second. Guesses may differ."
use Rattle.base.specs.declared.Refusal.{Refusal}
use Rattle.std.specs.Prelude.{List, [], ◌∷◌, ◌⊎◌, ◌≡◌, ℕ, ◌≤◌, Ok}
use Rattle.state.specs.declared.State.{State}
use Rattle.state.specs.declared.Setting.{Setting}
use Rattle.run.specs.Step.{step}
use Rattle.run.specs.Walk.{walk}
use Rattle.run.specs.declared.Outcome.TheVariants.{Refused}
use Rattle.run.specs.declared.RunAnswer.{RunAnswer}
use Rattle.run_laws.specs.Journey.{Call}
use Rattle.centre_laws.specs.Legs.{Leg}
-- "a second passing book holds every entry of the first with the same coefficients": what `book_holds` decides
pub use Rattle.book_holds.specs.Holds.{HoldsAll}

-- if the first book answers x, the second answers y with the same bits, unless x is the gap: refusal 6, the first book does not cover the
-- moment
abbrev pub Unless : {A : Type 0} → A → A → A → Type 0
Unless gap x y = (x ≡ gap) ⊎ (x ≡ y)

-- "same bits, same count": two runs that differ in their guesses alone
pub record SameRun (r q : RunAnswer Refusal) : Type 0 where
  pub outcome : r.outcome ≡ q.outcome
  pub steps : r.steps ≡ q.steps
  pub state : r.state ≡ q.state

-- a run from s that refuses under the first book, b, for lack of cover, and the same run under the second, c. It "goes at least as many
-- steps under the second", with the same states on the way.
pub record GoesFurther (b c : List ℕ) (setting : Setting) (h : ℕ) (s : State) (r q : RunAnswer Refusal) : Type 0 where
  pub uncovered : r.outcome ≡ Refused Refusal.Cover
  pub further : r.steps ≤ q.steps
  pub way : walk (step c setting h) r.steps s ≡ Ok r.state

abbrev pub FullerRun : List ℕ → List ℕ → Setting → ℕ → State → RunAnswer Refusal → RunAnswer Refusal → Type 0
FullerRun b c setting h s r q = SameRun r q ⊎ GoesFurther b c setting h s r q

-- the answers of the calls of a journey, one by one from the same state: the same, until the first book lacks cover
pub data Alongside (b c : List ℕ) (setting : Setting) (h : ℕ) : State → List (RunAnswer Refusal) → List (RunAnswer Refusal) → Type 0 where
  none : (s : State) → Alongside b c setting h s [] []
  same : (s : State) (r q : RunAnswer Refusal) (rs qs : List (RunAnswer Refusal)) → SameRun r q → Alongside b c setting h r.state rs qs
      → Alongside b c setting h s (r ∷ rs) (q ∷ qs)
  gap : (s : State) (r q : RunAnswer Refusal) (rs qs : List (RunAnswer Refusal)) → GoesFurther b c setting h s r q → Alongside b c setting h s (r ∷ rs) (q ∷ qs)

-- "Guesses may differ": the same calls with other guesses, and legs of such calls
abbrev pub SameBudgets : List Call → List Call → Type 0
SameBudgets [] [] = Unit {0}
SameBudgets [] (other ∷ others) = ⊥
SameBudgets (call ∷ calls) [] = ⊥
SameBudgets (call ∷ calls) (other ∷ others) = (call.budget ≡ other.budget) × SameBudgets calls others

pub record SameLeg (l k : Leg) : Type 0 where
  pub target : l.target ≡ k.target
  pub calls : SameBudgets l.calls k.calls
  pub centre : l.centre ≡ k.centre

abbrev pub SameLegs : List Leg → List Leg → Type 0
SameLegs [] [] = Unit {0}
SameLegs [] (k ∷ ks) = ⊥
SameLegs (l ∷ ls) [] = ⊥
SameLegs (l ∷ ls) (k ∷ ks) = SameLeg l k × SameLegs ls ks
