-- What a run that passed its start checks may rely on, and its answer if the state is past the end of time. Assumes nothing.
use mathlib.Core.Bool.{Bool, true, false}
use mathlib.Core.List.{List}
use mathlib.Core.Path.{◌≡◌, refl}
use Prim.Native.Nat.{ℕ, ◌≤◌}
use borrow.Author.Tests.{ltb-true, le-ltb}
use Rattle.std.specs.Prelude.{Ok}
use Rattle.base.specs.Limits.{end_of_time}
use Rattle.state.specs.State.{finite_state, setting_allowed, centre_allowed}
use Rattle.state.specs.declared.State.{State}
use Rattle.state.specs.declared.Setting.{Setting}
use Rattle.book.specs.Passes.{passes}
use Rattle.gravity.specs.declared.Guesses.{Guesses}
use Rattle.base.specs.Checks.{Checked, require, checked, ◌before◌}
use Rattle.base.specs.declared.Refusal.{Refusal}
use Rattle.state_checks.specs.Common.{common_checks}
use Rattle.run_checks.specs.Start.{inputs_checks, start_checks}
use Rattle.run.specs.Run.{Reached, with_guesses, refused_at_once, run_answer}
use Rattle.run.specs.Kept.{MayWalk}
use Rattle.run.specs.declared.RunAnswer.{RunAnswer}
use Rattle.run_checks.proofs.Allowed.{long_enough}
use Rattle.run_checks.proofs.Passed.{passed}

pub may_walk : (b : List ℕ) (setting : Setting) (s : State) (h target : ℕ) → start_checks b setting s h target ≡ Ok tt → MayWalk b setting s h target
may_walk b setting s h target e =
    let p = passed b setting s h target e in
    record { pass = p.book; centred = p.centred; long = long_enough h p.length; reachable = p.reachable; ends = ltb-true target end_of_time p.ends }

-- past the end of time the target does not matter
module _ (b : List ℕ) (setting : Setting) (s : State) (given : Guesses) where
  answer_by : Checked → Reached → RunAnswer Refusal
  answer_by checks r = checked checks (with_guesses b setting given r) (λ k. refused_at_once k s given)

  same_late : (p q c f1 f2 : Bool) (k1 k2 : Checked) (r1 r2 : Reached)
      → answer_by ((require p Refusal.Book before require q Refusal.Setting before require c Refusal.Centre before require false Refusal.Moment before require f1 Refusal.NotFinite) before k1) r1
      ≡ answer_by ((require p Refusal.Book before require q Refusal.Setting before require c Refusal.Centre before require false Refusal.Moment before require f2 Refusal.NotFinite) before k2) r2
  unfolding answer_by
  same_late false q c f1 f2 k1 k2 r1 r2 = refl
  same_late true false c f1 f2 k1 k2 r1 r2 = refl
  same_late true true false f1 f2 k1 k2 r1 r2 = refl
  same_late true true true f1 f2 k1 k2 r1 r2 = refl

  pub late : (h t1 t2 budget : ℕ) → end_of_time ≤ s.moment → run_answer b setting s h t1 budget given ≡ run_answer b setting s h t2 budget given
  unfolding run_answer start_checks inputs_checks common_checks answer_by
  late h t1 t2 budget e =
      rw (le-ltb _ _ e) (same_late (passes b) (setting_allowed setting) (centre_allowed setting s.centre) (finite_state s) (finite_state s) _ _ _ _)
