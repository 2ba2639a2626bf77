-- The run over any step f: its four laws, by the state that it has reached. Assumes nothing.
use mathlib.Core.Path.{◌≡◌, ap}
use Prim.Native.Nat.{ℕ, zero, suc, ◌+◌, ◌-◌}
use native.Mathlib.Omega.{arith}
use borrow.Author.Tests.{eq-eqb, ne_eqb}
use Rattle.base.specs.declared.Refusal.{Refusal}
use Rattle.std.specs.Prelude.{Ok, Err}
use Rattle.state.specs.declared.State.{State}
use Rattle.step.specs.Step.{Moved}
use Rattle.run.specs.Run.{Reached, ended, counted, run_to}
use Rattle.run.specs.Kept.{counted_by}
use Rattle.run.specs.declared.Outcome.TheVariants.{Arrived, Going, Refused}

module _ (f : State → Moved) (target : ℕ) (s : State) where
  pub run_arrived : (budget : ℕ) → s.moment ≡ target → run_to f target budget s ≡ ended Arrived s
  unfolding run_to
  run_arrived zero e = rw (eq-eqb _ _ e)
  run_arrived (suc budget) e = rw (eq-eqb _ _ e)

  module _ (short : s.moment ≡ target → ⊥) where
    pub run_going : run_to f target 0 s ≡ ended Going s
    unfolding run_to
    run_going = rw (ne_eqb _ _ short)

    pub run_refused : (budget : ℕ) (k : Refusal) → f s ≡ Err k → run_to f target (suc budget) s ≡ ended (Refused k) s
    unfolding run_to
    run_refused budget k e = rw (ne_eqb _ _ short, e)

    pub run_on : (budget : ℕ) (next : State) → f s ≡ Ok next → run_to f target (suc budget) s ≡ counted (run_to f target budget next)
    unfolding run_to
    run_on budget next e = rw (ne_eqb _ _ short, e)

-- ---- counting

same_steps : (r : Reached) (n m : ℕ) → n ≡ m
    → ◌≡◌ {A = Reached} record { outcome = r.outcome; steps = n; state = r.state } record { outcome = r.outcome; steps = m; state = r.state }
same_steps r n m e = ap (λ (k : ℕ). record { outcome = r.outcome; steps = k; state = r.state }) e

pub count_none : (r : Reached) → r ≡ counted_by 0 r
count_none r = same_steps r r.steps (0 + r.steps) (omega arith)

pub count_one : (n : ℕ) (r : Reached) → counted_by n (counted r) ≡ counted_by (n + 1) r
count_one n r = same_steps r (n + (r.steps + 1)) (n + 1 + r.steps) (omega arith)

pub count_ended : (n : ℕ) (r : Reached) → r.steps ≡ 0 → counted_by n r ≡ record { outcome = r.outcome; steps = n; state = r.state }
count_ended n r e = same_steps r (n + r.steps) n (omega arith)
