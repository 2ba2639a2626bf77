-- One run over any step that moves the clock by h and leaves finite components, described by its walk. Assumes nothing.
use mathlib.Core.Path.{◌≡◌, refl, sym, ap, ◌∙◌, subst}
use Prim.Native.Nat.{ℕ, zero, suc, ◌+◌, ◌*◌, ◌≤◌, ◌<◌}
use native.Mathlib.Nat.{suc-mul, zero-mul}
use native.Mathlib.Numerals.{add-one}
use native.Mathlib.Decide.{ℕ_discrete}
use native.Mathlib.Omega.{arith}
use Rattle.std.specs.Prelude.{Ok, Err}
use Rattle.base.specs.declared.Refusal.{Refusal}
use Rattle.state.specs.declared.State.{State}
use Rattle.run.specs.Step.{Moved}
use Rattle.run.specs.Walk.{walk}
use Rattle.run.specs.Run.{Reached, ended, counted, run_to}
use Rattle.run.specs.declared.Outcome.{Outcome}
use Rattle.run.specs.declared.Outcome.TheVariants.{Arrived, Going, Refused}
use Rattle.run.proofs.Runs.{run_arrived, run_going, run_refused, run_on}
use Rattle.run.proofs.Walked.{one_less}
use Rattle.run.proofs.Walks.{walk_first, walk_none, walk_last}

-- What an outcome says about the state s, after n steps of the walk f from the injection and a call that did some steps of its budget. One
-- outcome at a time: `Holds` is the statement for all of them.
abbrev pub Tells : (State → Moved) → State → ℕ → ℕ → ℕ → ℕ → State → Outcome Refusal → Type 0
Tells f injection target n budget did s Arrived = s.moment ≡ target
Tells f injection target n budget did s Going = (s.moment ≡ target → ⊥) × (did ≡ budget)
Tells f injection target n budget did s (Refused k) = (s.moment ≡ target → ⊥) × (did < budget) × (walk f (suc n) injection ≡ Err k)

-- `Seen` is what every step leaves true of its new state
module _ (f : State → Moved) (h target : ℕ) (Seen : State → Type 0) (clock : (s next : State) → f s ≡ Ok next → next.moment ≡ s.moment + h)
    (sees : (s next : State) → f s ≡ Ok next → Seen next) where
  pub record Ran (s : State) (budget : ℕ) (r : Reached) : Type 0 where
    pub walked : walk f r.steps s ≡ Ok r.state
    pub time : r.state.moment ≡ s.moment + r.steps * h
    pub spent : r.steps ≤ budget
    pub seen : 1 ≤ r.steps → Seen r.state
    pub left : ℕ
    pub reach : r.state.moment + left * h ≡ target
    pub tells : Tells f s target r.steps budget r.steps r.state r.outcome

  -- zero steps lead to the state itself
  pub stays : (s : State) (r : Reached) → walk f r.steps s ≡ Ok r.state → r.steps ≡ 0 → r.state ≡ s
  stays s r w none =
      let same : Ok r.state ≡ Ok s = sym w ∙ ap (λ (n : ℕ). walk f n s) none ∙ walk_none f s in
      cc

  module _ (s : State) (short : s.moment ≡ target → ⊥) where
    -- what a run from the next state says, seen from this one
    tells_before : (next : State) (n budget : ℕ) (last : State) (o : Outcome Refusal) → f s ≡ Ok next → Tells f next target n budget n last o
        → Tells f s target (n + 1) (suc budget) (n + 1) last o
    tells_before next n budget last Arrived e t = t
    tells_before next n budget last Going e t = (t.0, let same = t.1 in omega arith)
    tells_before next n budget last (Refused k) e t = (
      t.0,
      let less = t.1 in omega arith,
      ap (λ (m : ℕ). walk f (suc m) s) (add-one n) ∙ walk_first f (suc n) s next e ∙ t.2,
    )

    seen_later : (next : State) (budget : ℕ) (r : Reached) → f s ≡ Ok next → Ran next budget r → (n : ℕ) → r.steps ≡ n → Seen r.state
    seen_later next budget r e ih zero none = subst Seen (sym (stays next r ih.walked none)) (sees s next e)
    seen_later next budget r e ih (suc n) some = ih.seen (omega arith)

    ran_on : (next : State) (budget : ℕ) (r : Reached) → f s ≡ Ok next → Ran next budget r → Ran s (suc budget) (counted r)
    ran_on next budget r e ih =
        record {
          walked = ap (λ (m : ℕ). walk f m s) (add-one r.steps) ∙ walk_first f r.steps s next e ∙ ih.walked;
          time =
              let t = ih.time in
              let c = clock s next e in
              let m : (r.steps + 1) * h ≡ h + r.steps * h = ap (λ (k : ℕ). k * h) (add-one r.steps) ∙ suc-mul r.steps h ∙ omega arith in
              omega arith;
          spent = let some = ih.spent in omega arith;
          seen = λ some. seen_later next budget r e ih r.steps refl;
          left = ih.left;
          reach = ih.reach;
          tells = tells_before next r.steps budget r.state r.outcome e ih.tells;
        }

  still : (s : State) (budget left : ℕ) (o : Outcome Refusal) → s.moment + left * h ≡ target → Tells f s target 0 budget 0 s o → Ran s budget (ended o s)
  still s budget left o reach tells =
      record {
        walked = walk_none f s;
        time = let z = zero-mul h in omega arith;
        spent = omega arith;
        seen = λ some. absurd (omega arith);
        left = left;
        reach = reach;
        tells = tells;
      }

  pub ran : (budget : ℕ) (s : State) (left : ℕ) → s.moment + left * h ≡ target → Ran s budget (run_to f target budget s)
  ran zero s left reach = go (ℕ_discrete s.moment target)
    where
      go : Dec (s.moment ≡ target) → Ran s 0 (run_to f target 0 s)
      go (yes e) = rw (run_arrived f target s 0 e) (still s 0 left Arrived reach e)
      go (no short) = rw (run_going f target s short) (still s 0 left Going reach (short, refl))
  ran (suc budget) s left reach = go (ℕ_discrete s.moment target) (f s) refl (ran budget)
    where
      go : Dec (s.moment ≡ target) → (m : Moved) → f s ≡ m
          → ((next : State) (left' : ℕ) → next.moment + left' * h ≡ target → Ran next budget (run_to f target budget next))
          → Ran s (suc budget) (run_to f target (suc budget) s)
      go (yes at) m e later = rw (run_arrived f target s (suc budget) at) (still s (suc budget) left Arrived reach at)
      go (no short) (Ok next) e later =
          let k = one_less s.moment h left target short reach in
          rw (run_on f target s short budget next e)
          (ran_on s short next budget _ e (later next k.0 (ap (λ (t : ℕ). t + k.0 * h) (clock s next e) ∙ k.1)))
      go (no short) (Err k) e later =
          rw (run_refused f target s short budget k e)
          (still s (suc budget) left (Refused k) reach (short, omega arith, walk_last f 0 s s (walk_none f s) ∙ e))
