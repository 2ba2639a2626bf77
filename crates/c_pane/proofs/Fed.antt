-- (02, R-14) What a pane in memory is fed, for every number that C gives. Assumes nothing.
use Rattle.std.proofs.Common.{◌≡◌, ℕ, Bool, true, false, refl}
use Rattle.std.specs.Prelude.{Option, Some, None}
use Rattle.base.specs.Choice.{if◌then◌otherwise◌, ◌=?◌}
use Rattle.base.specs.Refusals.{refusal_of}
use Rattle.base.specs.declared.Refusal.{Refusal}
use Rattle.state.specs.declared.State.{State}
use Rattle.run.specs.declared.Outcome.{Outcome}
use Rattle.pane_live.specs.Pane.{take, feed}
use Rattle.pane_live.specs.declared.Pane.{Pane}
use Rattle.pane_live.specs.declared.TakeAnswer.{TakeAnswer}
use Rattle.pane_live.specs.declared.TakeAnswer.TheVariants as taken
use Rattle.c_run.specs.Answers.{going}
use Rattle.c_pane.specs.Lent.{refused_with, fed_with_outcome, fed_with}

module _ (pane : Pane) (s : State) where
  -- a number that is neither 0 nor 100, whether or not it is that of a refusal
  refused : (k : Option Refusal) → fed_with_outcome pane s (refused_with k) ≡ taken.Unchanged
  unfolding feed
  refused (Some k) = refl
  refused None = refl

  not_arrived : (goes : Bool) (k : Option Refusal)
      → fed_with_outcome pane s (if goes then Some Outcome.Going otherwise refused_with k) ≡ (if goes then take pane s otherwise taken.Unchanged)
  unfolding feed
  not_arrived true k = refl
  not_arrived false k = refused k

  told : (arrives goes : Bool) (k : Option Refusal)
      → fed_with_outcome pane s (if arrives then Some Outcome.Arrived otherwise if goes then Some Outcome.Going otherwise refused_with k)
      ≡ (if arrives then take pane s otherwise if goes then take pane s otherwise taken.Unchanged)
  unfolding feed
  told true goes k = refl
  told false goes k = not_arrived goes k

-- "feed": the state is offered with 0 and 100. Every other number leaves the pane unchanged: those of the refusals, and those that no run
-- returns.
pub fed_with_number : (pane : Pane) (n : ℕ) (s : State) → fed_with pane n s ≡ (if n =? 0 then take pane s otherwise if n =? going then take pane s otherwise taken.Unchanged)
fed_with_number pane n s = told pane s (n =? 0) (n =? going) (refusal_of n)
