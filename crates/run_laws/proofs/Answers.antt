-- The answer of a run call after its checks have passed; they pass again at the state at which it stopped. Assumes nothing.
use mathlib.Core.Bool.{true}
use mathlib.Core.List.{List}
use mathlib.Core.Path.{◌≡◌, refl, sym, ap, ◌∙◌}
use Prim.Native.Nat.{ℕ, zero, suc, ◌+◌, ◌-◌, ◌*◌, ◌/◌, ◌≤◌, ◌<◌}
use native.Mathlib.Nat.{mul-mod_left}
use native.Mathlib.Omega.{arith}
use borrow.Author.Tests.{lt-ltb, le-leb, ltb-true}
use Rattle.std.specs.Prelude.{Ok, Err}
use Rattle.base.specs.Limits.{end_of_time}
use Rattle.base.specs.declared.Refusal.{Refusal}
use Rattle.state.specs.State.{position, acceleration, finite_state, centre_allowed}
use Rattle.state.specs.declared.State.{State}
use Rattle.state.specs.declared.Setting.{Setting}
use Rattle.gravity.specs.Acceleration.{acceleration_at}
use Rattle.gravity.specs.Sight.{sights}
use Rattle.gravity.specs.declared.Guesses.{Guesses}
use Rattle.gravity_stored.specs.Injection.{stored_check}
use Rattle.gravity_stored.proofs.Stored.{carries_rule, stored_passes}
use Rattle.run.specs.Step.{Moved, step}
use Rattle.run.specs.Walk.{onward, walk}
use Rattle.run_checks.specs.Start.{within_steps, start_checks}
use Rattle.run.specs.Run.{run_to, with_guesses, refused_at_once, run_answer}
use Rattle.run_checks.proofs.Allowed.{away}
use Rattle.run.proofs.OneStep.{done}
use Rattle.run_checks.proofs.Passed.{Passed}
use Rattle.run_laws.proofs.Ran.{Ran, ran, stays}

pub answer_is : (b : List ℕ) (setting : Setting) (s : State) (h target budget : ℕ) (given : Guesses) → start_checks b setting s h target ≡ Ok tt
    → run_answer b setting s h target budget given ≡ with_guesses b setting given (run_to (step b setting h) target budget s)
unfolding run_answer
answer_is b setting s h target budget given e = rw e

pub refused_is : (b : List ℕ) (setting : Setting) (s : State) (h target budget : ℕ) (given : Guesses) (k : Refusal) → start_checks b setting s h target ≡ Err k
    → run_answer b setting s h target budget given ≡ refused_at_once k s given
unfolding run_answer
refused_is b setting s h target budget given k e = rw e

still_within : (t h left target : ℕ) → t + left * h ≡ target → within_steps t h target ≡ true
still_within t h left target e =
    let ahead : t ≤ target = omega arith in
    let never_equal : target - t ≡ left * h = omega arith in
    rw (le-leb t target ahead, never_equal, mul-mod_left left h)

-- what a step leaves true of its new state: its components are finite, it is in order, and every used body was seen at its moment, if its
-- centre is one
pub record Left (b : List ℕ) (setting : Setting) (s : State) : Type 0 where
  pub finite : finite_state s ≡ true
  pub rule : acceleration_at b setting s.centre s.moment (position s) ≡ Ok (acceleration s)
  pub clear : centre_allowed setting s.centre ≡ true → (sights b setting s.centre s.moment).checked ≡ Ok tt

module _ (b : List ℕ) (setting : Setting) (h target : ℕ) where
  pub moves : (s next : State) → step b setting h s ≡ Ok next → next.moment ≡ s.moment + h
  moves s next e = (done b setting h s next e).moment

  pub leaves : (s next : State) → step b setting h s ≡ Ok next → Left b setting next
  leaves s next e =
      let d = done b setting h s next e in
      record {
        finite = d.finite;
        rule = d.rule;
        clear = λ ok.
            ap (λ (c : ℕ). (sights b setting c next.moment).checked) d.centre
            ∙ ap (λ (t : ℕ). (sights b setting s.centre t).checked) d.moment
            ∙ d.clear (ap (centre_allowed setting) (sym d.centre) ∙ ok);
      }

  -- steps stay about their centre
  pub centre_stays : (n : ℕ) (s last : State) → walk (step b setting h) n s ≡ Ok last → last.centre ≡ s.centre
  unfolding walk
  centre_stays zero s last e = let same : last ≡ s = cc in ap (λ (x : State). x.centre) same
  centre_stays (suc n) s last e = go (walk (step b setting h) n s) refl e (centre_stays n s)
    where
      go : (m : Moved) → walk (step b setting h) n s ≡ m → onward (step b setting h) m ≡ Ok last
          → ((middle : State) → walk (step b setting h) n s ≡ Ok middle → middle.centre ≡ s.centre) → last.centre ≡ s.centre
      go (Ok middle) w e before = (done b setting h middle last e).centre ∙ before middle w
      go (Err k) w e before = let z : ◌≡◌ {A = ℕ} 0 1 = cc in absurd (omega arith)

  pub run_from : (s : State) (budget : ℕ) → Passed b setting s h target
      → Ran (step b setting h) h target (Left b setting) moves leaves s budget (run_to (step b setting h) target budget s)
  run_from s budget p =
      ran (step b setting h) h target (Left b setting) moves leaves budget s ((target - s.moment) / h) (away s.moment h target p.reachable)

  -- the checks pass again at the state at which a run stopped
  pub checks_stay : (s : State) (budget : ℕ) → Passed b setting s h target → Passed b setting (run_to (step b setting h) target budget s).state h target
  checks_stay s budget p =
      let r = run_from s budget p in
      let q = run_to (step b setting h) target budget s in
      let last : target < end_of_time = ltb-true target end_of_time p.ends in
      let reach = r.reach in
      let here : q.state.moment < end_of_time = omega arith in
      record {
        book = p.book;
        set = p.set;
        centred = ap (centre_allowed setting) (centre_stays q.steps s q.state r.walked) ∙ p.centred;
        begins = lt-ltb _ _ here;
        ends = p.ends;
        finite = finite_there q.steps refl;
        ordered = ordered_there q.steps refl;
        length = p.length;
        reachable = still_within _ h r.left target reach;
      }
    where
      same : (run_to (step b setting h) target budget s).steps ≡ 0 → (run_to (step b setting h) target budget s).state ≡ s
      same none = stays (step b setting h) h target (Left b setting) moves leaves s (run_to (step b setting h) target budget s) (run_from s budget p).walked none

      finite_there : (n : ℕ) → (run_to (step b setting h) target budget s).steps ≡ n → finite_state (run_to (step b setting h) target budget s).state ≡ true
      finite_there zero none = ap finite_state (same none) ∙ p.finite
      finite_there (suc n) some = ((run_from s budget p).seen (omega arith)).finite

      ordered_there : (n : ℕ) → (run_to (step b setting h) target budget s).steps ≡ n → stored_check b setting (run_to (step b setting h) target budget s).state ≡ Ok tt
      ordered_there zero none = ap (stored_check b setting) (same none) ∙ p.ordered
      ordered_there (suc n) some = stored_passes b setting _ (carries_rule b setting _ ((run_from s budget p).seen (omega arith)).rule)
