-- Document 02, R-6: "About the Earth all bits stay as they were", for a walk and for a run. Assumes nothing.
use mathlib.Core.Bool.{false}
use mathlib.Core.List.{List}
use mathlib.Core.Path.{◌≡◌, refl, sym, ap, ◌∙◌}
use Prim.Native.Nat.{ℕ, zero, suc, ◌+◌}
use native.Mathlib.Decide.{ℕ_discrete}
use Rattle.base.specs.declared.Refusal.{Refusal}
use Rattle.std.specs.Prelude.{Result, Ok, Err}
use Rattle.base.specs.Checks.{Checked}
use Rattle.state.specs.State.{position, acceleration, carrying, bare, used}
use Rattle.state.specs.declared.Vector.{Vector}
use Rattle.state.specs.declared.State.{State}
use Rattle.state.specs.declared.Setting.{Setting}
use Rattle.gravity.specs.Acceleration.{acceleration_at}
use Rattle.gravity.specs.declared.Guesses.{Guesses}
use Rattle.gravity_stored.specs.Injection.{kept_by}
use Rattle.gravity_stored.proofs.Stored.{carries_rule, stored_passes}
use Rattle.run_checks.specs.Start.{start_checks}
use Rattle.run.specs.Step.{Moved, and_then, step}
use Rattle.run.specs.Stages.{stage2}
use Rattle.run.specs.Walk.{onward, walk}
use Rattle.run.specs.Run.{Reached, counted, run_to, run_answer}
use Rattle.run.proofs.OneStep.{done}
use Rattle.run.proofs.Runs.{run_arrived, run_going, run_refused, run_on}
use Rattle.run_laws.proofs.Answers.{answer_is, refused_is, centre_stays}
use Rattle.run_unchanged.specs.Acceleration.{acceleration_before, start_before}
use Rattle.run_unchanged.specs.Step.{unkept, step_before, kept_after}
use Rattle.run_unchanged.specs.Run.{run_before, reached_by, AsBefore, same, without}
use Rattle.run_unchanged.proofs.AboutTheEarth.{about_the_earth, start_as_before}
use Rattle.run_unchanged.proofs.Recomputed.{step_as_before}

module _ (b : List ℕ) (setting : Setting) (flat : used setting.j ≡ false) (dark : used setting.k ≡ false) (h : ℕ) where
  abbrev acc : ℕ → Vector → Result Vector Refusal
  acc = acceleration_before b setting

  -- the step now and before
  abbrev now : State → Moved
  now = step b setting h

  abbrev old : State → Moved
  old = step_before acc h

  -- a state about the Earth with the rule's acceleration
  pub record Carries (s : State) : Type 0 where
    pub earth : s.centre ≡ 1
    pub rule : acceleration_at b setting s.centre s.moment (position s) ≡ Ok (acceleration s)

  -- by the old rule
  rule_before_lem : (s : State) → Carries s → acc s.moment (position s) ≡ Ok (acceleration s)
  rule_before_lem s c =
      sym (about_the_earth setting flat dark b s.moment (position s))
      ∙ ap (λ (n : ℕ). acceleration_at b setting n s.moment (position s)) (sym c.earth)
      ∙ c.rule

  -- the state with its own acceleration
  carries : (s : State) (a : Vector) → s.centre ≡ 1 → acc s.moment (position s) ≡ Ok a → Carries (carrying (bare s) a)
  carries s a earth e =
      record {
        earth = earth;
        rule =
            ap (λ (n : ℕ). acceleration_at b setting n s.moment (position s)) earth
            ∙ about_the_earth setting flat dark b s.moment (position s)
            ∙ e;
      }

  -- the step before does not read what is stored
  unread : (s : State) (a : Vector) → old (carrying (bare s) a) ≡ old s
  unread s a = refl

  -- a state without an acceleration has no step before
  no_step : (s : State) (k : Refusal) → acc s.moment (position s) ≡ Err k → old s ≡ Err k
  no_step s k e = ap (λ (q : Result Vector Refusal). and_then q (stage2 acc (unkept acc) h s)) e

  step_is : (s : State) → Carries s → now s ≡ kept_after acc (old s)
  step_is s c = step_as_before b setting h s c.earth flat dark c.rule

  -- ---- the walk

  -- about the Earth the plain walk is document 01's old walk, and then the acceleration of its last state, or the refusal of a state that
  -- has none
  pub walk_as_before : (n : ℕ) (s : State) → Carries s → walk now n s ≡ kept_after acc (walk old n s)
  unfolding walk
  walk_as_before zero s c = sym (ap (λ (q : Result Vector Refusal). kept_by (bare s) q) (rule_before_lem s c))
  walk_as_before (suc n) s c = go (walk old n s) refl (walk_as_before n s c)
    where
      by : (x : State) (q : Result Vector Refusal) → acc x.moment (position x) ≡ q → walk now n s ≡ kept_by (bare x) q
          → onward now (kept_by (bare x) q) ≡ kept_after acc (old x)
      by x (Ok a) e w =
          let centre : x.centre ≡ 1 = centre_stays b setting h 0 n s (carrying (bare x) a) w ∙ c.earth in
          step_is (carrying (bare x) a) (carries x a centre e) ∙ ap (kept_after acc) (unread x a)
      by x (Err k) e w = sym (ap (kept_after acc) (no_step x k e))

      go : (m : Moved) → walk old n s ≡ m → walk now n s ≡ kept_after acc (walk old n s) → onward now (walk now n s) ≡ kept_after acc (onward old (walk old n s))
      go (Ok x) e w =
          ap (onward now) (w ∙ ap (kept_after acc) e)
          ∙ by x (acc x.moment (position x)) refl (w ∙ ap (kept_after acc) e)
          ∙ sym (ap (λ (m : Moved). kept_after acc (onward old m)) e)
      go (Err k) e w = ap (onward now) (w ∙ ap (kept_after acc) e) ∙ sym (ap (λ (m : Moved). kept_after acc (onward old m)) e)

  -- ---- the run

  -- a run before, from a state without an acceleration, stays there
  stuck : (target budget : ℕ) (x : State) (k : Refusal) → acc x.moment (position x) ≡ Err k
      → ((run_to old target budget x).steps ≡ 0) × ((run_to old target budget x).state ≡ x)
  stuck target budget x k e = go (ℕ_discrete x.moment target) budget
    where
      go : Dec (x.moment ≡ target) → (n : ℕ) → ((run_to old target n x).steps ≡ 0) × ((run_to old target n x).state ≡ x)
      go (yes at) n = rw (run_arrived old target x n at) (refl, refl)
      go (no short) zero = rw (run_going old target x short) (refl, refl)
      go (no short) (suc n) = rw (run_refused old target x short n k (no_step x k e)) (refl, refl)

  counts : (r q : Reached) → AsBefore b setting r q → AsBefore b setting (counted r) (counted q)
  counts r q (same o n s) = same o (ap (λ (n : ℕ). n + 1) n) s
  counts r q (without k o n a) = without k o (ap (λ (n : ℕ). n + 1) n) a

  -- from two states that differ only in the stored acceleration
  run_from_lem : (target budget : ℕ) (s : State) (v : Vector) → Carries s
      → AsBefore b setting (run_to now target budget s) (run_to old target budget (carrying (bare s) v))
  run_from_lem target zero s v c = go (ℕ_discrete s.moment target)
    where
      go : Dec (s.moment ≡ target) → AsBefore b setting (run_to now target 0 s) (run_to old target 0 (carrying (bare s) v))
      go (yes at) = rw (run_arrived now target s 0 at, run_arrived old target (carrying (bare s) v) 0 at) (same refl refl refl)
      go (no short) = rw (run_going now target s short, run_going old target (carrying (bare s) v) short) (same refl refl refl)
  run_from_lem target (suc budget) s v c = go (ℕ_discrete s.moment target) (old s) refl (run_from_lem target budget)
    where
      stepped : (s.moment ≡ target → ⊥) → (next : State) → old s ≡ Ok next → (q : Result Vector Refusal) → acc next.moment (position next) ≡ q
          → ((s : State) (v : Vector) → Carries s → AsBefore b setting (run_to now target budget s) (run_to old target budget (carrying (bare s) v)))
          → AsBefore b setting (run_to now target (suc budget) s) (counted (run_to old target budget next))
      stepped short next on (Ok a) e later =
          let y = carrying (bare next) a in
          let goes : now s ≡ Ok y = step_is s c ∙ ap (kept_after acc) on ∙ ap (λ (q : Result Vector Refusal). kept_by (bare next) q) e in
          rw (run_on now target s short budget y goes)
          (counts _ _ (later y (acceleration next) (carries next a ((done b setting h s y goes).centre ∙ c.earth) e)))
      stepped short next on (Err k) e later =
          let ends : now s ≡ Err k = step_is s c ∙ ap (kept_after acc) on ∙ ap (λ (q : Result Vector Refusal). kept_by (bare next) q) e in
          let there = stuck target budget next k e in
          rw (run_refused now target s short budget k ends)
          (without k refl (ap (λ (n : ℕ). n + 1) there.0) (ap (λ (x : State). acc x.moment (position x)) there.1 ∙ e))

      go : Dec (s.moment ≡ target) → (m : Moved) → old s ≡ m
          → ((s : State) (v : Vector) → Carries s → AsBefore b setting (run_to now target budget s) (run_to old target budget (carrying (bare s) v)))
          → AsBefore b setting (run_to now target (suc budget) s) (run_to old target (suc budget) (carrying (bare s) v))
      go (yes at) m e later = rw (run_arrived now target s (suc budget) at, run_arrived old target (carrying (bare s) v) (suc budget) at) (same refl refl refl)
      go (no short) (Ok next) e later =
          rw (run_on old target (carrying (bare s) v) short budget next e) (stepped short next e (acc next.moment (position next)) refl later)
      go (no short) (Err k) e later =
          rw (run_refused now target s short budget k (step_is s c ∙ ap (kept_after acc) e), run_refused old target (carrying (bare s) v) short budget k e)
          (same refl refl refl)

  -- about the Earth a run reaches what it reached before, with the same bits and the same count. The exception is a step whose new state
  -- has no acceleration: it is refused at that step.
  pub run_as_before : (s : State) (target budget : ℕ) (given : Guesses) → Carries s
      → AsBefore b setting (reached_by (run_answer b setting s h target budget given)) (run_before b setting s h target budget)
  run_as_before s target budget given c = go (start_checks b setting s h target) refl
    where
      checks : start_checks b setting s h target ≡ start_before b setting s h target
      checks = start_as_before b setting s h c.earth (stored_passes b setting s (carries_rule b setting s c.rule)) target

      go : (checked : Checked) → start_checks b setting s h target ≡ checked
          → AsBefore b setting (reached_by (run_answer b setting s h target budget given)) (run_before b setting s h target budget)
      go (Ok tt) e = rw (answer_is b setting s h target budget given e, sym checks ∙ e) (run_from_lem target budget s (acceleration s) c)
      go (Err k) e = rw (refused_is b setting s h target budget given k e, sym checks ∙ e) (same refl refl refl)
