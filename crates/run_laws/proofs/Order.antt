-- Document 02, R-8: if the given state is in order, every state that a run returns is too. Assumes nothing.
use mathlib.Core.Bool.{true}
use mathlib.Core.List.{List}
use mathlib.Core.Path.{◌≡◌, refl, sym, ap, ◌∙◌}
use Prim.Native.Nat.{ℕ, zero, suc}
use native.Mathlib.Omega.{arith}
use Rattle.std.specs.Prelude.{Ok, Err}
use Rattle.base.specs.Checks.{Checked}
use Rattle.state.specs.State.{bare}
use Rattle.state.specs.declared.State.{State}
use Rattle.state.specs.declared.Setting.{Setting}
use Rattle.gravity.specs.declared.Guesses.{Guesses}
use Rattle.gravity_stored.specs.Injection.{stored_is_rule, launched}
use Rattle.gravity_stored.proofs.Launched.{launched_itself}
use Rattle.gravity_stored.proofs.Stored.{only_stored}
use Rattle.run_checks.specs.Start.{start_checks}
use Rattle.run_checks.proofs.Passed.{Passed, passed}
use Rattle.run.specs.Run.{run_to, run_answer}
use Rattle.run.specs.Step.{step}
use Rattle.run_laws.proofs.Ran.{stays}
use Rattle.run_laws.proofs.Answers.{Left, answer_is, refused_is, moves, leaves, run_from, checks_stay}

module _ (b : List ℕ) (setting : Setting) (s : State) (h target budget : ℕ) (given : Guesses) where
  -- a run whose checks pass was given such a state
  pub starts_in_order : start_checks b setting s h target ≡ Ok tt → stored_is_rule b setting s ≡ true
  starts_in_order e = only_stored b setting s (passed b setting s h target e).ordered

  -- and returns one, at any step at which it stops
  pub ends_in_order : start_checks b setting s h target ≡ Ok tt → stored_is_rule b setting (run_answer b setting s h target budget given).state ≡ true
  ends_in_order e =
      rw (answer_is b setting s h target budget given e)
      (only_stored b setting (run_to (step b setting h) target budget s).state (checks_stay b setting h target s budget (passed b setting s h target e)).ordered)

  pub run_in_order : stored_is_rule b setting s ≡ true → stored_is_rule b setting (run_answer b setting s h target budget given).state ≡ true
  run_in_order ok = go (start_checks b setting s h target) refl
    where
      go : (c : Checked) → start_checks b setting s h target ≡ c → stored_is_rule b setting (run_answer b setting s h target budget given).state ≡ true
      go (Ok tt) e = ends_in_order e
      go (Err k) e = rw (refused_is b setting s h target budget given k e) ok

-- If a state is the one that its old coordinates mean, so are the states after it. So a journey through old calls is the same journey.
module _ (b : List ℕ) (setting : Setting) (h target : ℕ) where
  launched_there : (s : State) (budget : ℕ) → Passed b setting s h target → launched b setting (bare s) ≡ s → (n : ℕ)
      → (run_to (step b setting h) target budget s).steps ≡ n
      → launched b setting (bare (run_to (step b setting h) target budget s).state) ≡ (run_to (step b setting h) target budget s).state
  launched_there s budget p self zero none =
      let q = run_to (step b setting h) target budget s in
      let same = stays (step b setting h) h target (Left b setting) (moves b setting h target) (leaves b setting h target) s q (run_from b setting h target s budget p).walked none in
      ap (λ (x : State). launched b setting (bare x)) same ∙ self ∙ sym same
  launched_there s budget p self (suc n) some =
      let there = checks_stay b setting h target s budget p in
      launched_itself b setting (run_to (step b setting h) target budget s).state there.book there.set there.centred there.begins there.finite
      ((run_from b setting h target s budget p).seen (omega arith)).rule

  pub run_launched : (s : State) (budget : ℕ) (given : Guesses) → launched b setting (bare s) ≡ s
      → launched b setting (bare (run_answer b setting s h target budget given).state) ≡ (run_answer b setting s h target budget given).state
  run_launched s budget given self = go (start_checks b setting s h target) refl
    where
      go : (c : Checked) → start_checks b setting s h target ≡ c
          → launched b setting (bare (run_answer b setting s h target budget given).state) ≡ (run_answer b setting s h target budget given).state
      go (Ok tt) e =
          rw (answer_is b setting s h target budget given e)
          (launched_there s budget (passed b setting s h target e) self (run_to (step b setting h) target budget s).steps refl)
      go (Err k) e = rw (refused_is b setting s h target budget given k e) self
