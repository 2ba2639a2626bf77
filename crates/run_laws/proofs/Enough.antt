-- Calls whose budgets together are enough end with arrived or with a refusal. Assumes nothing.
use mathlib.Core.List.{List, [], ◌∷◌}
use mathlib.Core.Path.{◌≡◌, refl, sym, ap, ◌∙◌, subst}
use Prim.Native.Nat.{ℕ, ◌+◌, ◌*◌, ◌≤◌}
use native.Mathlib.Nat.{add-mul, zero-add}
use native.Mathlib.Omega.{arith}
use borrow.Author.Tests.{ne_eqb}
use Rattle.base.specs.declared.Refusal.{Refusal}
use Rattle.std.specs.Prelude.{Ok}
use Rattle.state.specs.declared.State.{State}
use Rattle.state.specs.declared.Setting.{Setting}
use Rattle.run.specs.Step.{step}
use Rattle.run_checks.specs.Start.{start_checks}
use Rattle.run.specs.Run.{run_to, with_guesses, run_answer}
use Rattle.run.specs.declared.Outcome.{Outcome}
use Rattle.run.specs.declared.Outcome.TheVariants.{Arrived, Going, Refused}
use Rattle.run.specs.declared.RunAnswer.{RunAnswer}
use Rattle.run_checks.proofs.Passed.{Passed, passed, passes_all}
use Rattle.run_laws.specs.Journey.{Call, after, budgets, Over, there, off}
use Rattle.run_laws.proofs.Ran.{Tells}
use Rattle.run_laws.proofs.Answers.{answer_is, run_from, checks_stay}
use Rattle.run_laws.proofs.Again.{Stuck, again, is_stuck}

module _ (b : List ℕ) (setting : Setting) (h target : ℕ) where
  answer : State → Call → RunAnswer Refusal
  answer s call = run_answer b setting s h target call.budget call.guesses

  module _ (s : State) (call : Call) (p : Passed b setting s h target) where
    same : answer s call ≡ with_guesses b setting call.guesses (run_to (step b setting h) target call.budget s)
    unfolding answer
    same = answer_is b setting s h target call.budget call.guesses (passes_all b setting s h target p)

    tells_as : (o : Outcome Refusal) → (answer s call).outcome ≡ o
        → Tells (step b setting h) s target (run_to (step b setting h) target call.budget s).steps call.budget
        (run_to (step b setting h) target call.budget s).steps (run_to (step b setting h) target call.budget s).state o
    tells_as o is =
        subst
        (Tells (step b setting h) s target (run_to (step b setting h) target call.budget s).steps call.budget
        (run_to (step b setting h) target call.budget s).steps (run_to (step b setting h) target call.budget s).state)
        (sym (ap (λ (a : RunAnswer Refusal). a.outcome) same) ∙ is)
        (run_from b setting h target s call.budget p).tells

    moment_of : (answer s call).state.moment ≡ (run_to (step b setting h) target call.budget s).state.moment
    moment_of = ap (λ (a : RunAnswer Refusal). a.state.moment) same

    passes_on : Passed b setting (answer s call).state h target
    passes_on = rw same (checks_stay b setting h target s call.budget p)

    arrived_at : (answer s call).outcome ≡ Arrived → (answer s call).state.moment ≡ target
    arrived_at is = moment_of ∙ tells_as Arrived is

    gone_on : (answer s call).outcome ≡ Going → (answer s call).state.moment ≡ s.moment + call.budget * h
    gone_on is =
        moment_of ∙ (run_from b setting h target s call.budget p).time ∙ ap (λ (n : ℕ). s.moment + n * h) (tells_as Going is).1

    stuck_at : (k : Refusal) → (answer s call).outcome ≡ Refused k → Stuck b setting h target k (answer s call).state
    unfolding answer
    stuck_at k is = is_stuck b setting h target s call.budget call.guesses k (passes_all b setting s h target p) is

    -- a run whose budget reaches the target is not going
    not_going : target ≤ s.moment + call.budget * h → (answer s call).outcome ≡ Going → ⊥
    not_going room is =
        let r = run_from b setting h target s call.budget p in
        let gone = gone_on is in
        let here = moment_of in
        let reach = r.reach in
        (tells_as Going is).0 (omega arith)

  pub after_stuck : (k : Refusal) (s : State) (calls : List Call) → Stuck b setting h target k s → after b setting h target s calls ≡ s
  after_stuck k s [] stuck = refl
  after_stuck k s (call ∷ calls) stuck = rw (again b setting h target k s call stuck) (after_stuck k s calls stuck)

  -- a call with a budget is refused again
  met_with : (k : Refusal) (s : State) (call : Call) → Stuck b setting h target k s → 1 ≤ call.budget → (answer s call).outcome ≡ Refused k
  unfolding answer
  met_with k s call stuck some = rw (again b setting h target k s call stuck, ne_eqb call.budget 0 (λ z. absurd (omega arith)))

  all_pass : (calls : List Call) (s : State) → Passed b setting s h target → Passed b setting (after b setting h target s calls) h target
  unfolding answer
  all_pass [] s p = p
  all_pass (call ∷ calls) s p = all_pass calls (answer s call).state (passes_on s call p)

  -- if the last call has a budget, and all budgets together are enough, it is not going
  never_going : (calls : List Call) (s : State) (last : Call) → Passed b setting s h target
      → target ≤ s.moment + (budgets calls + last.budget) * h → 1 ≤ last.budget → (answer (after b setting h target s calls) last).outcome ≡ Going → ⊥
  unfolding answer
  never_going [] s last p room some =
      not_going s last p (subst (λ (n : ℕ). target ≤ s.moment + n * h) (zero-add last.budget) room)
  never_going (call ∷ calls) s last p room some =
      go (λ room'. never_going calls (answer s call).state last (passes_on s call p) room' some) (answer s call).outcome refl
    where
      go : (target ≤ (answer s call).state.moment + (budgets calls + last.budget) * h
          → (answer (after b setting h target (answer s call).state calls) last).outcome ≡ Going → ⊥)
          → (o : Outcome Refusal) → (answer s call).outcome ≡ o → (answer (after b setting h target (answer s call).state calls) last).outcome ≡ Going → ⊥
      go later Arrived is = let at : (answer s call).state.moment ≡ target = arrived_at s call p is in later (omega arith)
      go later Going is =
          let time = gone_on s call p is in
          let sums = add-mul call.budget (budgets calls + last.budget) h in
          let same : call.budget + budgets calls + last.budget ≡ call.budget + (budgets calls + last.budget) = omega arith in
          let far : (call.budget + budgets calls + last.budget) * h ≡ call.budget * h + (budgets calls + last.budget) * h =
          ap (λ (n : ℕ). n * h) same ∙ sums in
          later (omega arith)
      go later (Refused k) is = λ going.
          let stuck = stuck_at s call p k is in
          let same_answer = ap (λ (x : State). (answer x last).outcome) (after_stuck k (answer s call).state calls stuck) in
          let clash : Refused k ≡ Going = sym (met_with k (answer s call).state last stuck some) ∙ sym same_answer ∙ going in
          let z : ◌≡◌ {A = ℕ} 0 1 = cc in
          omega arith

  -- calls whose budgets together are enough: the last one, which has a budget, is at the target, or its next step is refused
  pub enough : (calls : List Call) (injection : State) (last : Call) → start_checks b setting injection h target ≡ Ok tt
      → target ≤ injection.moment + (budgets calls + last.budget) * h → 1 ≤ last.budget
      → Over (step b setting h) target (run_answer b setting (after b setting h target injection calls) h target last.budget last.guesses)
  unfolding answer
  enough calls injection last e room some =
      let p = passed b setting injection h target e in
      let end = after b setting h target injection calls in
      go (all_pass calls injection p) (never_going calls injection last p room some) (answer end last).outcome refl
    where
      go : Passed b setting (after b setting h target injection calls) h target
          → ((answer (after b setting h target injection calls) last).outcome ≡ Going → ⊥)
          → (o : Outcome Refusal) → (answer (after b setting h target injection calls) last).outcome ≡ o
          → Over (step b setting h) target (answer (after b setting h target injection calls) last)
      go p never Arrived is = there is (arrived_at _ last p is)
      go p never Going is = absurd (never is)
      go p never (Refused k) is = off k is (stuck_at _ last p k is).off
