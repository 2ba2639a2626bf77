-- Once steps were done, each used body's returned guess is the entry that covers the returned moment. Assumes nothing.
use mathlib.Core.Bool.{Bool, true, false}
use mathlib.Core.List.{List}
use mathlib.Core.Path.{◌≡◌, refl}
use Prim.Native.Nat.{ℕ, ◌≤◌}
use native.Mathlib.Omega.{arith}
use lib.Ieee.{Float}
use borrow.Author.Tests.{ne_eqb, eq-eqb}
use Rattle.std.specs.Prelude.{Option, Some, None, Ok, Err}
use Rattle.base.specs.Checks.{Checked}
use Rattle.base.specs.declared.Refusal.{Refusal}
use Rattle.state.specs.State.{used, looked_up}
use Rattle.state.specs.declared.State.{State}
use Rattle.state.specs.declared.Setting.{Setting}
use Rattle.book.specs.Lookup.{lookup}
use Rattle.gravity.specs.Sight.{found_of, found_in, all_found, sights}
use Rattle.gravity.specs.declared.Guesses.{Guesses}
use Rattle.gravity.proofs.Under.{all_clear}
use Rattle.run.specs.Step.{step}
use Rattle.run.specs.Run.{run_to, guess_at, guesses_at, run_answer}
use Rattle.run_checks.specs.Start.{start_checks}
use Rattle.run_checks.proofs.Passed.{passed}
use Rattle.run_laws.specs.Guessed.{Guess, AllGuessed}
use Rattle.run_laws.proofs.Answers.{answer_is, refused_is, run_from, checks_stay}

-- a body that was seen
one : (b : List ℕ) (number : ℕ) (m : Float) (lit : Bool) (t given : ℕ) → (found_of b number m lit t).checked ≡ Ok tt
    → Guess b t number m lit given (guess_at b t number m lit given)
unfolding found_of
one b number m lit t given clear =
    record { covering = λ u. by u (lookup b number t) refl; other = λ u. rw u }
  where
    by : looked_up m lit ≡ true → (l : Option ℕ) → lookup b number t ≡ l → lookup b number t ≡ Some (guess_at b t number m lit given)
    by u (Some i) e = rw (u, e)
    by u None e = let six : Err Refusal.Cover ≡ Ok tt = rw (u, e) at clear in let z : ◌≡◌ {A = ℕ} 0 1 = cc in absurd (omega arith)

all : (b : List ℕ) (s : Setting) (c t : ℕ) (given : Guesses) → (sights b s c t).checked ≡ Ok tt → AllGuessed b s t given (guesses_at b s t given)
unfolding sights found_in all_found guesses_at
all b s c t given clear =
    let seen = all_clear _ clear in
    record {
      moon = one b 2 s.moon false t given.moon seen.0;
      sun = one b 3 s.sun (used s.k) t given.sun seen.1.0;
      venus = one b 4 s.venus false t given.venus seen.1.1.0;
      mars = one b 5 s.mars false t given.mars seen.1.1.1.0;
      jupiter = one b 6 s.jupiter false t given.jupiter seen.1.1.1.1.0;
    }

module _ (b : List ℕ) (setting : Setting) (s : State) (h target budget : ℕ) (given : Guesses) where
  -- "If steps were done"
  pub guessed : 1 ≤ (run_answer b setting s h target budget given).steps
      → AllGuessed b setting (run_answer b setting s h target budget given).state.moment given (run_answer b setting s h target budget given).guesses
  guessed = go (start_checks b setting s h target) refl
    where
      go : (c : Checked) → start_checks b setting s h target ≡ c → 1 ≤ (run_answer b setting s h target budget given).steps
          → AllGuessed b setting (run_answer b setting s h target budget given).state.moment given (run_answer b setting s h target budget given).guesses
      go (Ok tt) e =
          rw (answer_is b setting s h target budget given e)
          (λ some.
          let q = run_to (step b setting h) target budget s in
          let p = passed b setting s h target e in
          let left = (run_from b setting h target s budget p).seen some in
          rw (ne_eqb q.steps 0 (λ z. absurd (omega arith)))
          (all b setting q.state.centre q.state.moment given (left.clear (checks_stay b setting h target s budget p).centred)))
      go (Err k) e = rw (refused_is b setting s h target budget given k e) (λ some. absurd (omega arith))

  -- if no step was done, every guess comes back as given
  pub unmoved : (run_answer b setting s h target budget given).steps ≡ 0 → (run_answer b setting s h target budget given).guesses ≡ given
  unmoved none = go (start_checks b setting s h target) refl none
    where
      go : (c : Checked) → start_checks b setting s h target ≡ c → (run_answer b setting s h target budget given).steps ≡ 0
          → (run_answer b setting s h target budget given).guesses ≡ given
      go (Ok tt) e = rw (answer_is b setting s h target budget given e) (λ z. rw (eq-eqb _ _ z))
      go (Err k) e = rw (refused_is b setting s h target budget given k e) (λ z. refl)
