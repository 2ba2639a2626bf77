-- The lines of the pane, each by the numbers read from it. Assumes nothing.
use Prim.Native.Nat.{ℕ}
use mathlib.Core.List.{List, []}
use mathlib.Core.Path.{◌≡◌, refl}
use native.Mathlib.Omega.{arith}
use lib.ListN.{take}
use Rattle.std.specs.Prelude.{Option, Some, None}
use Rattle.base.specs.Refusals.{refusal_of}
use Rattle.base.specs.declared.Refusal.{Refusal}
use Rattle.run.specs.declared.Outcome.TheVariants as outcome
use Rattle.pane_live.specs.declared.Pane.{Pane}
use Rattle.pane_live.specs.declared.TakeAnswer.TheVariants as taken
use Rattle.pane_live.specs.Pane as pane
use Rattle.line_form.specs.Call.{These, Unreadable, call_of}
use Rattle.line_values.specs.Values.{number, state_from}
use Rattle.line_values.proofs.Taken.{number_taken, state_taken, guesses_taken}
use Rattle.pane_lines.specs.Answers.{take_name, state_kinds, frame_name, frame_kinds, clear_name, arrived_name, going_name, run_kinds, refused_name, refused_kinds}
use Rattle.pane_lines.specs.Answers.{run_from, told_taken, told_refused, told_frame, told_clear, told_unreadable, run_line, answer_to}

-- "a refused run leaves the pane as it was": so does a line with any other number after REFUSED
module _ (p : Pane) (v : List ℕ) where
  refused_told : (k : Option Refusal) → told_refused p v k ≡ told_taken p taken.Unchanged
  unfolding pane.feed
  refused_told (Some k) = refl
  refused_told None = refl

  pub refused_line_unchanged : (n : ℕ) → told_refused p v (refusal_of n) ≡ told_taken p taken.Unchanged
  refused_line_unchanged n = refused_told (refusal_of n)

module _ (p : Pane) (line : List ℕ) (v : List ℕ) where
  pub takes : call_of line take_name state_kinds ≡ These (take 11 v) → answer_to p line ≡ told_taken p (pane.take p (state_from v 0))
  unfolding answer_to
  takes e = rw (e, state_taken 11 v 0 (omega arith))

  pub arrives : call_of line arrived_name run_kinds ≡ These (take 17 v) → run_line p line ≡ told_taken p (pane.feed p (run_from v outcome.Arrived 0))
  arrives e = rw (e, number_taken 17 v 0 (omega arith), state_taken 17 v 1 (omega arith), guesses_taken 17 v 12 (omega arith))

  module _ (n : call_of line take_name state_kinds ≡ Unreadable) where
    pub frames : call_of line frame_name frame_kinds ≡ These (take 1 v) → answer_to p line ≡ told_frame p (number v 0)
    unfolding answer_to
    frames e = rw (n, e, number_taken 1 v 0 (omega arith))

    module _ (m : call_of line frame_name frame_kinds ≡ Unreadable) where
      pub clears : call_of line clear_name [] ≡ These (take 0 v) → answer_to p line ≡ told_clear
      unfolding answer_to
      clears e = rw (n, m, e)

      pub others : call_of line clear_name [] ≡ Unreadable → answer_to p line ≡ run_line p line
      unfolding answer_to
      others e = rw (n, m, e)

  module _ (n : call_of line arrived_name run_kinds ≡ Unreadable) where
    pub goes : call_of line going_name run_kinds ≡ These (take 17 v) → run_line p line ≡ told_taken p (pane.feed p (run_from v outcome.Going 0))
    goes e = rw (n, e, number_taken 17 v 0 (omega arith), state_taken 17 v 1 (omega arith), guesses_taken 17 v 12 (omega arith))

    module _ (m : call_of line going_name run_kinds ≡ Unreadable) where
      pub refuses : call_of line refused_name refused_kinds ≡ These (take 18 v) → run_line p line ≡ told_refused p v (refusal_of (number v 0))
      refuses e = rw (n, m, e, number_taken 18 v 0 (omega arith)) (by (refusal_of (number v 0)))
        where
          by : (k : Option Refusal) → told_refused p (take 18 v) k ≡ told_refused p v k
          by (Some k) = rw (number_taken 18 v 1 (omega arith), state_taken 18 v 2 (omega arith), guesses_taken 18 v 13 (omega arith))
          by None = refl

      pub unreadable : call_of line refused_name refused_kinds ≡ Unreadable → run_line p line ≡ told_unreadable p
      unreadable e = rw (n, m, e)
