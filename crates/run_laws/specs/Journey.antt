-- Demand 3: a journey of several calls with any budgets and any guesses, each call continuing from the last, compared with the plain walk.
use Rattle.base.specs.declared.Refusal.{Refusal}
use Rattle.std.specs.Prelude.{List, [], ◌∷◌, ◌↔◌, ◌≡◌, ℕ, suc, ◌+◌, ◌*◌, ◌<◌, ◌≤◌, Ok, Err}
use Rattle.base.specs.Choice.{if◌then◌otherwise◌, ◌=?◌}
use Rattle.state.specs.declared.State.{State}
use Rattle.state.specs.declared.Setting.{Setting}
use Rattle.gravity.specs.declared.Guesses.{Guesses}
use Rattle.run.specs.Step.{Moved}
use Rattle.run.specs.Walk.{walk}
use Rattle.run.specs.Run.{run_answer}
use Rattle.run.specs.declared.Outcome.TheVariants.{Arrived, Going, Refused}
use Rattle.run.specs.declared.RunAnswer.{RunAnswer}

-- one call of a journey
pub record Call : Type 0 where
  pub budget : ℕ
  pub guesses : Guesses

-- the answers of the calls, each made from the state that the last one returned
abbrev pub journey : List ℕ → Setting → ℕ → ℕ → State → List Call → List (RunAnswer Refusal)
journey b setting h target s [] = []
journey b setting h target s (call ∷ calls) =
    let r = run_answer b setting s h target call.budget call.guesses in
    r ∷ journey b setting h target r.state calls

-- the state that a journey has reached
abbrev pub after : List ℕ → Setting → ℕ → ℕ → State → List Call → State
after b setting h target s [] = s
after b setting h target s (call ∷ calls) =
    after b setting h target (run_answer b setting s h target call.budget call.guesses).state calls

-- the sum of the budgets of the calls
abbrev pub budgets : List Call → ℕ
budgets [] = 0
budgets (call ∷ calls) = call.budget + budgets calls

-- One answer of a call with this budget, after n steps of the walk f from the injection in all.
pub record Holds (f : State → Moved) (injection : State) (h target n budget : ℕ) (r : RunAnswer Refusal) : Type 0 where
  -- "The state equals, to the bit, the plain walk from the injection"
  pub walked : walk f n injection ≡ Ok r.state
  pub clock : r.state.moment ≡ injection.moment + n * h
  pub within : r.state.moment ≤ target
  pub spent : r.steps ≤ budget
  -- "'Arrived' only at the target moment", and always there
  pub arrived : r.outcome ≡ Arrived ↔ r.state.moment ≡ target
  -- "'going' only short of it with the budget spent to its last step", and always then
  pub going : r.outcome ≡ Going ↔ (r.state.moment < target) × (r.steps ≡ budget)
  -- "A refusal exactly when, short of the target, the call has budget left and the walk's next step cannot be taken; it carries that
  -- walk's number"
  pub refused : (k : Refusal) → r.outcome ≡ Refused k ↔ (r.state.moment < target) × (r.steps < budget) × (walk f (suc n) injection ≡ Err k)

-- every answer of a journey, one for each call, after n steps before them
abbrev pub AllHold : (State → Moved) → State → ℕ → ℕ → ℕ → List Call → List (RunAnswer Refusal) → Type 0
AllHold f injection h target n [] [] = Unit {0}
AllHold f injection h target n [] (r ∷ answers) = ⊥
AllHold f injection h target n (call ∷ calls) [] = ⊥
AllHold f injection h target n (call ∷ calls) (r ∷ answers) =
    Holds f injection h target (n + r.steps) call.budget r × AllHold f injection h target (n + r.steps) calls answers

-- "A refused step costs nothing and is met again by each later call with budget": the answer of a call from the state s, if the next step
-- is refused with k. Without budget the answer is going.
abbrev pub met_again : Refusal → State → Call → RunAnswer Refusal
met_again k s call =
    record { outcome = if call.budget =? 0 then Going otherwise Refused k; steps = 0; state = s; guesses = call.guesses }

-- an answer that ends a journey: arrived at the target, or refused with the number of the step that cannot be taken
pub data Over (f : State → Moved) (target : ℕ) (r : RunAnswer Refusal) : Type 0 where
  there : r.outcome ≡ Arrived → r.state.moment ≡ target → Over f target r
  off : (k : Refusal) → r.outcome ≡ Refused k → f r.state ≡ Err k → Over f target r
