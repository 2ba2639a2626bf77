-- Document 02, R-8: "an injection without an acceleration is refused at once, at any budget and also at the target". Assumes nothing.
use mathlib.Core.Bool.{true}
use mathlib.Core.List.{List}
use mathlib.Core.Path.{◌≡◌, ap}
use Prim.Native.Nat.{ℕ}
use Rattle.base.specs.declared.Refusal.{Refusal}
use Rattle.std.specs.Prelude.{Err}
use Rattle.base.specs.Limits.{is_moment}
use Rattle.state.specs.State.{position, finite_state, setting_allowed, centre_allowed}
use Rattle.state.specs.declared.State.{State}
use Rattle.state.specs.declared.Setting.{Setting}
use Rattle.book.specs.Passes.{passes}
use Rattle.gravity.specs.Acceleration.{acceleration_at}
use Rattle.gravity.specs.declared.Guesses.{Guesses}
use Rattle.gravity_stored.specs.Injection.{stored_check_by, stored_check}
use Rattle.run_checks.specs.Start.{inputs_checks, start_checks}
use Rattle.state_checks.specs.Common.{common_checks}
use Rattle.run.specs.Run.{refused_at_once, run_answer}
use Rattle.run_laws.proofs.Answers.{refused_is}

-- a state that passes the checks before it (1, 4, 14, 3 and 7), at which the rule has no acceleration but the refusal k
module _ (b : List ℕ) (setting : Setting) (s : State) (h : ℕ) (k : Refusal) (book : passes b ≡ true) (set : setting_allowed setting ≡ true)
    (centred : centre_allowed setting s.centre ≡ true) (begins : is_moment s.moment ≡ true) (finite : finite_state s ≡ true)
    (none : acceleration_at b setting s.centre s.moment (position s) ≡ Err k) where
  ordered : stored_check b setting s ≡ Err k
  unfolding stored_check
  ordered = ap (stored_check_by s) none

  number : (target : ℕ) → is_moment target ≡ true → start_checks b setting s h target ≡ Err k
  unfolding start_checks inputs_checks common_checks
  number target ends = rw (book, set, centred, begins, ends, finite, ordered)

  -- "at any budget": for every target in range, step length and guesses
  pub refused_at_once_lem : (target budget : ℕ) (given : Guesses) → is_moment target ≡ true → run_answer b setting s h target budget given ≡ refused_at_once k s given
  refused_at_once_lem target budget given ends = refused_is b setting s h target budget given k (number target ends)

  -- "and also at the target"
  pub also_at_the_target : (budget : ℕ) (given : Guesses) → run_answer b setting s h s.moment budget given ≡ refused_at_once k s given
  also_at_the_target budget given = refused_at_once_lem s.moment budget given begins
