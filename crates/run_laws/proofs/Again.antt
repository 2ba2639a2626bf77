-- "A refused step costs nothing and is met again by each later call with budget." Assumes nothing.
use mathlib.Core.List.{List, [], ◌∷◌, map}
use mathlib.Core.Path.{◌≡◌, refl, sym, ap, ◌∙◌}
use Prim.Native.Nat.{ℕ, zero, suc}
use lib.Dec.{eqb-suc-zero}
use Rattle.base.specs.declared.Refusal.{Refusal}
use Rattle.std.specs.Prelude.{Err, Ok}
use Rattle.state.specs.declared.State.{State}
use Rattle.state.specs.declared.Setting.{Setting}
use Rattle.gravity.specs.declared.Guesses.{Guesses}
use Rattle.run.specs.Step.{step}
use Rattle.run_checks.specs.Start.{start_checks}
use Rattle.run.specs.Run.{run_to, with_guesses, run_answer}
use Rattle.run.specs.declared.Outcome.{Outcome}
use Rattle.run.specs.declared.Outcome.TheVariants.{Refused}
use Rattle.run.specs.declared.RunAnswer.{RunAnswer}
use Rattle.run.proofs.Runs.{run_going, run_refused}
use Rattle.run_checks.proofs.Passed.{Passed, passed, passes_all}
use Rattle.run.proofs.Walks.{walk_last}
use Rattle.run_laws.specs.Journey.{Call, journey, met_again}
use Rattle.run_laws.proofs.Ran.{Tells}
use Rattle.run_laws.proofs.Answers.{answer_is, run_from, checks_stay}

-- a refused run stopped short of the target, at a state with no next step
pub record Stuck (b : List ℕ) (setting : Setting) (h target : ℕ) (k : Refusal) (s : State) : Type 0 where
  pub passes : Passed b setting s h target
  pub short : s.moment ≡ target → ⊥
  pub off : step b setting h s ≡ Err k

module _ (b : List ℕ) (setting : Setting) (h target : ℕ) where
  -- a call from that state
  pub again : (k : Refusal) (s : State) (call : Call) → Stuck b setting h target k s
      → run_answer b setting s h target call.budget call.guesses ≡ met_again k s call
  again k s call stuck =
      answer_is b setting s h target call.budget call.guesses (passes_all b setting s h target stuck.passes)
      ∙ go call.budget refl
    where
      go : (budget : ℕ) → call.budget ≡ budget
          → with_guesses b setting call.guesses (run_to (step b setting h) target call.budget s) ≡ met_again k s call
      go zero e = rw (e, run_going (step b setting h) target s stuck.short)
      go (suc m) e = rw (e, run_refused (step b setting h) target s stuck.short m k stuck.off, eqb-suc-zero)

  -- every call from that state
  pub all_again : (k : Refusal) (s : State) (calls : List Call) → Stuck b setting h target k s
      → journey b setting h target s calls ≡ map (met_again k s) calls
  all_again k s [] stuck = refl
  all_again k s (call ∷ calls) stuck =
      rw (again k s call stuck) (ap (λ (rest : List (RunAnswer Refusal)). met_again k s call ∷ rest) (all_again k s calls stuck))

  stuck_by : (s : State) (budget : ℕ) (k : Refusal) → Passed b setting s h target → (run_to (step b setting h) target budget s).outcome ≡ Refused k
      → Stuck b setting h target k (run_to (step b setting h) target budget s).state
  stuck_by s budget k p is = go (run_to (step b setting h) target budget s).outcome refl
    where
      go : (o : Outcome Refusal) → (run_to (step b setting h) target budget s).outcome ≡ o
          → Stuck b setting h target k (run_to (step b setting h) target budget s).state
      go o e =
          let r = run_from b setting h target s budget p in
          let q = run_to (step b setting h) target budget s in
          let t : Tells (step b setting h) s target q.steps budget q.steps q.state (Refused k) = (rw is at r).tells in
          record {
            passes = checks_stay b setting h target s budget p;
            short = t.0;
            off = sym (walk_last (step b setting h) q.steps s q.state r.walked) ∙ t.2;
          }

  pub is_stuck : (s : State) (budget : ℕ) (given : Guesses) (k : Refusal) → start_checks b setting s h target ≡ Ok tt
      → (run_answer b setting s h target budget given).outcome ≡ Refused k
      → Stuck b setting h target k (run_answer b setting s h target budget given).state
  is_stuck s budget given k e is =
      let same = answer_is b setting s h target budget given e in
      rw same (stuck_by s budget k (passed b setting s h target e) (sym (ap (λ (r : RunAnswer Refusal). r.outcome) same) ∙ is))

  -- once a call was refused with k, every later one answers 0 steps, the same number and the same state; without budget it is going
  pub refused_again : (s : State) (budget : ℕ) (given : Guesses) (k : Refusal) (calls : List Call) → start_checks b setting s h target ≡ Ok tt
      → (run_answer b setting s h target budget given).outcome ≡ Refused k
      → journey b setting h target (run_answer b setting s h target budget given).state calls
      ≡ map (met_again k (run_answer b setting s h target budget given).state) calls
  refused_again s budget given k calls e is = all_again k _ calls (is_stuck s budget given k e is)
