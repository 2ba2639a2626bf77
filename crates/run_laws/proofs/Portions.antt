-- Demand 3 over any list of calls, and what holds of every call. Assumes nothing.
use mathlib.Core.List.{List, [], ◌∷◌}
use mathlib.Core.Path.{◌≡◌, refl, sym, ap, ◌∙◌}
use Prim.Native.Nat.{ℕ, suc, ◌+◌, ◌*◌, ◌≤◌, ◌<◌}
use native.Mathlib.Nat.{zero-mul, add-suc, add-mul}
use native.Mathlib.Omega.{arith}
use Rattle.base.specs.declared.Refusal.{Refusal}
use Rattle.base.specs.Checks.{Checked}
use Rattle.std.specs.Prelude.{Ok, Err}
use Rattle.state.specs.declared.State.{State}
use Rattle.state.specs.declared.Setting.{Setting}
use Rattle.gravity.specs.declared.Guesses.{Guesses}
use Rattle.run.specs.Step.{Moved, step}
use Rattle.run.specs.Walk.{walk}
use Rattle.run_checks.specs.Start.{start_checks}
use Rattle.run.specs.Run.{run_to, with_guesses, run_answer}
use Rattle.run.specs.declared.Outcome.{Outcome}
use Rattle.run.specs.declared.Outcome.TheVariants.{Arrived, Going, Refused}
use Rattle.run.specs.declared.RunAnswer.{RunAnswer}
use Rattle.run_checks.proofs.Passed.{Passed, passed, passes_all}
use Rattle.run.proofs.Walks.{walk_more, walk_none}
use Rattle.run_laws.specs.Journey.{Call, journey, Holds, AllHold}
use Rattle.run_laws.proofs.Ran.{Tells}
use Rattle.run_laws.proofs.Answers.{answer_is, refused_is, run_from, checks_stay}

-- ---- from one outcome to all of them

-- two outcomes that differ
data Differ : Outcome Refusal → Outcome Refusal → Type 0 where
  arrived_going : Differ Arrived Going
  arrived_refused : (k : Refusal) → Differ Arrived (Refused k)
  going_refused : (k : Refusal) → Differ Going (Refused k)

never_equal : {o o' : Outcome Refusal} → Differ o o' → (o ≡ o' → ⊥) × (o' ≡ o → ⊥)
never_equal arrived_going = (λ e. let z : ◌≡◌ {A = ℕ} 0 1 = cc in omega arith, λ e. let z : ◌≡◌ {A = ℕ} 0 1 = cc in omega arith)
never_equal (arrived_refused k) = (λ e. let z : ◌≡◌ {A = ℕ} 0 1 = cc in omega arith, λ e. let z : ◌≡◌ {A = ℕ} 0 1 = cc in omega arith)
never_equal (going_refused k) = (λ e. let z : ◌≡◌ {A = ℕ} 0 1 = cc in omega arith, λ e. let z : ◌≡◌ {A = ℕ} 0 1 = cc in omega arith)

same_number : (f : State → Moved) (injection : State) (n : ℕ) (j k : Refusal) → walk f (suc n) injection ≡ Err j → Refused j ≡ Refused k
    → walk f (suc n) injection ≡ Err k
same_number f injection n j k w e = let same : j ≡ k = cc in w ∙ ap Err same

one_number : (f : State → Moved) (injection : State) (n : ℕ) (j k : Refusal) → walk f (suc n) injection ≡ Err j → walk f (suc n) injection ≡ Err k
    → Refused j ≡ Refused k
one_number f injection n j k w w' = let same : Err j ≡ Err k = sym w ∙ w' in let number : j ≡ k = cc in ap Refused number

module _ (f : State → Moved) (injection : State) (h target n budget : ℕ) (r : RunAnswer Refusal) (walked : walk f n injection ≡ Ok r.state)
    (clock : r.state.moment ≡ injection.moment + n * h) (within : r.state.moment ≤ target) (spent : r.steps ≤ budget) where
  holds_by : (o : Outcome Refusal) → r.outcome ≡ o → Tells f injection target n budget r.steps r.state o → Holds f injection h target n budget r
  holds_by Arrived is at =
      record {
        walked = walked;
        clock = clock;
        within = within;
        spent = spent;
        arrived = (λ e. at, λ e. is);
        going = (λ e. absurd ((never_equal arrived_going).0 (sym is ∙ e)), λ p. let less = p.0 in absurd (omega arith));
        refused = λ k. (λ e. absurd ((never_equal (arrived_refused k)).0 (sym is ∙ e)), λ p. let less = p.0 in absurd (omega arith));
      }
  holds_by Going is (short, same) =
      record {
        walked = walked;
        clock = clock;
        within = within;
        spent = spent;
        arrived = (λ e. absurd ((never_equal arrived_going).1 (sym is ∙ e)), λ at. absurd (short at));
        going = (λ e. (before short, same), λ p. is);
        refused = λ k. (λ e. absurd ((never_equal (going_refused k)).0 (sym is ∙ e)), λ p. let less = p.1 in absurd (omega arith));
      }
    where
      before : (r.state.moment ≡ target → ⊥) → r.state.moment < target
      before short = omega arith
  holds_by (Refused j) is (short, left, off) =
      record {
        walked = walked;
        clock = clock;
        within = within;
        spent = spent;
        arrived = (λ e. absurd ((never_equal (arrived_refused j)).1 (sym is ∙ e)), λ at. absurd (short at));
        going = (λ e. absurd ((never_equal (going_refused j)).1 (sym is ∙ e)), λ p. let same = p.1 in absurd (omega arith));
        refused = λ k. (
          λ e. (omega arith, left, same_number f injection n j k off (sym is ∙ e)),
          λ p. is ∙ one_number f injection n j k off p.2,
        );
      }

-- ---- the calls of a journey

module _ (b : List ℕ) (setting : Setting) (h target : ℕ) (injection : State) where
  tells_from : (n : ℕ) (s : State) (m budget : ℕ) (last : State) (o : Outcome Refusal) → walk (step b setting h) n injection ≡ Ok s
      → Tells (step b setting h) s target m budget m last o → Tells (step b setting h) injection target (n + m) budget m last o
  tells_from n s m budget last Arrived w t = t
  tells_from n s m budget last Going w t = t
  tells_from n s m budget last (Refused k) w t = (
    t.0,
    t.1,
    ap (λ (j : ℕ). walk (step b setting h) j injection) (sym (add-suc n m)) ∙ walk_more (step b setting h) n (suc m) injection s w ∙ t.2,
  )

  holds_from : (n : ℕ) (s : State) (budget : ℕ) (given : Guesses) → walk (step b setting h) n injection ≡ Ok s
      → s.moment ≡ injection.moment + n * h → Passed b setting s h target
      → Holds (step b setting h) injection h target (n + (run_to (step b setting h) target budget s).steps) budget
      (with_guesses b setting given (run_to (step b setting h) target budget s))
  holds_from n s budget given w t p =
      let r = run_from b setting h target s budget p in
      let q = run_to (step b setting h) target budget s in
      holds_by (step b setting h) injection h target (n + q.steps) budget (with_guesses b setting given q)
      (walk_more (step b setting h) n q.steps injection s w ∙ r.walked)
      (let time = r.time in let m = add-mul n q.steps h in omega arith)
      (let reach = r.reach in omega arith)
      r.spent
      q.outcome
      refl
      (tells_from n s q.steps budget q.state q.outcome w r.tells)

  onward_from : (n : ℕ) (s : State) (calls : List Call) → walk (step b setting h) n injection ≡ Ok s → s.moment ≡ injection.moment + n * h
      → Passed b setting s h target → AllHold (step b setting h) injection h target n calls (journey b setting h target s calls)
  onward_from n s [] w t p = tt
  onward_from n s (call ∷ calls) w t p =
      let q = run_to (step b setting h) target call.budget s in
      let first = holds_from n s call.budget call.guesses w t p in
      rw (answer_is b setting s h target call.budget call.guesses (passes_all b setting s h target p))
      (first, onward_from (n + q.steps) q.state calls first.walked first.clock (checks_stay b setting h target s call.budget p))

  -- demand 3
  pub portions : (calls : List Call) → start_checks b setting injection h target ≡ Ok tt
      → AllHold (step b setting h) injection h target 0 calls (journey b setting h target injection calls)
  portions calls e =
      onward_from 0 injection calls (walk_none (step b setting h) injection) (let z = zero-mul h in omega arith) (passed b setting injection h target e)

-- ---- for every input, refused ones too

-- returned moment = given moment + count·h
pub clock_always : (b : List ℕ) (setting : Setting) (s : State) (h target budget : ℕ) (given : Guesses)
    → (run_answer b setting s h target budget given).state.moment ≡ s.moment + (run_answer b setting s h target budget given).steps * h
clock_always b setting s h target budget given = go (start_checks b setting s h target) refl
  where
    go : (c : Checked) → start_checks b setting s h target ≡ c
        → (run_answer b setting s h target budget given).state.moment ≡ s.moment + (run_answer b setting s h target budget given).steps * h
    go (Ok tt) e = rw (answer_is b setting s h target budget given e) (run_from b setting h target s budget (passed b setting s h target e)).time
    go (Err k) e = rw (refused_is b setting s h target budget given k e) (let z = zero-mul h in omega arith)

-- no call does more steps than its budget
pub spent_always : (b : List ℕ) (setting : Setting) (s : State) (h target budget : ℕ) (given : Guesses)
    → (run_answer b setting s h target budget given).steps ≤ budget
spent_always b setting s h target budget given = go (start_checks b setting s h target) refl
  where
    go : (c : Checked) → start_checks b setting s h target ≡ c → (run_answer b setting s h target budget given).steps ≤ budget
    go (Ok tt) e = rw (answer_is b setting s h target budget given e) (run_from b setting h target s budget (passed b setting s h target e)).spent
    go (Err k) e = rw (refused_is b setting s h target budget given k e) (omega arith)

-- the answer without its guesses does not depend on the given guesses
pub record SameButGuesses (r r' : RunAnswer Refusal) : Type 0 where
  pub outcome : r.outcome ≡ r'.outcome
  pub steps : r.steps ≡ r'.steps
  pub state : r.state ≡ r'.state

pub guess_free : (b : List ℕ) (setting : Setting) (s : State) (h target budget : ℕ) (given other : Guesses)
    → SameButGuesses (run_answer b setting s h target budget given) (run_answer b setting s h target budget other)
guess_free b setting s h target budget given other = go (start_checks b setting s h target) refl
  where
    go : (c : Checked) → start_checks b setting s h target ≡ c
        → SameButGuesses (run_answer b setting s h target budget given) (run_answer b setting s h target budget other)
    go (Ok tt) e =
        rw (answer_is b setting s h target budget given e, answer_is b setting s h target budget other e)
        (record { outcome = refl; steps = refl; state = refl })
    go (Err k) e =
        rw (refused_is b setting s h target budget given k e, refused_is b setting s h target budget other k e)
        (record { outcome = refl; steps = refl; state = refl })
