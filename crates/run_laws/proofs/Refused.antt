-- A step is refused only with 6 or 7, and a run with these and the numbers of its start checks. Assumes nothing.
use mathlib.Core.Bool.{Bool, true, false, ◌&&◌, ◌||◌, true≢false}
use mathlib.Core.List.{List}
use mathlib.Core.Logic.{◌⊎◌, inl, inr}
use mathlib.Core.Path.{◌≡◌, refl, sym, ap, ◌∙◌}
use Prim.Native.Nat.{ℕ, zero, suc, ◌+◌, ◌/◌}
use borrow.Author.Tests.{eqb-true}
use Rattle.base.specs.declared.Refusal.{Refusal}
use Rattle.std.specs.Prelude.{Result, Ok, Err, Some}
use Rattle.base.specs.Choice.{◌=?◌}
use Rattle.base.specs.Limits.{is_moment}
use Rattle.base.proofs.Cases.{by_if}
use Rattle.state.specs.State.{position, velocity, acceleration, injection_at, bare, same_vector, finite_vector, finite_state, centre_allowed}
use Rattle.state.specs.declared.Vector.{Vector}
use Rattle.state.specs.declared.State.{State}
use Rattle.state.specs.declared.Injection.{Injection}
use Rattle.state.specs.declared.Setting.{Setting}
use Rattle.gravity.specs.Acceleration.{acceleration_at}
use Rattle.gravity.specs.declared.Guesses.{Guesses}
use Rattle.base.specs.Checks.{Checked, ◌before◌, checked, refused_by}
use Rattle.base.specs.Refusals.{number_of, refusal_of}
use Rattle.base.proofs.Refusals.{reads_back}
use Rattle.state_checks.proofs.Numbers.{common_meets}
use Rattle.gravity.proofs.Refused.{rule_refused}
use Rattle.gravity_stored.specs.Injection.{rule_at, kept_by, stored_check_by, stored_check}
use Rattle.run_target.specs.Target.{target_checks}
use Rattle.run_checks.specs.Start.{step_allowed, within_steps, inputs_checks, start_checks}
use Rattle.run.specs.Step.{Moved, and_then, along, weighed, half, sixth, step_h, arrive, keeping, step}
use Rattle.run.specs.Stages.{velocity2, velocity3, velocity4, lastly, stage2, stage3, stage4}
use Rattle.run.specs.Run.{Reached, at_target, afterwards, run_to, with_guesses, refused_at_once, run_answer}
use Rattle.run.specs.declared.Outcome.{Outcome}
use Rattle.run.specs.declared.Outcome.TheVariants as outcome

abbrev pub off_by : (Refusal → Bool) → Moved → Bool
off_by ok (Ok s) = true
off_by ok (Err k) = ok k

-- an outcome whose refusal, if it is one, meets the test
abbrev pub outcome_by : (Refusal → Bool) → Outcome Refusal → Bool
outcome_by ok outcome.Arrived = true
outcome_by ok outcome.Going = true
outcome_by ok (outcome.Refused k) = ok k

module _ (ok : Refusal → Bool) (six : ok Refusal.Cover ≡ true) (seven : ok Refusal.NotFinite ≡ true) where
  then_off : (a : Result Vector Refusal) (next : Vector → Moved) → refused_by ok a ≡ true → ((v : Vector) → off_by ok (next v) ≡ true) → off_by ok (and_then a next) ≡ true
  then_off (Ok v) next first rest = rest v
  then_off (Err k) next first rest = first

  kept_off : (i : Injection) (a : Result Vector Refusal) → refused_by ok a ≡ true → off_by ok (kept_by i a) ≡ true
  kept_off i (Ok a) e = refl
  kept_off i (Err k) e = e

  module _ (acc : ℕ → Vector → Result Vector Refusal) (each : (t : ℕ) (P : Vector) → refused_by ok (acc t P) ≡ true) (h : ℕ) (s : State) where
    arrive_off : (t c : ℕ) (p v : Vector) → off_by ok (arrive (keeping acc) t c p v) ≡ true
    arrive_off t c p v = by_if (off_by ok) (finite_vector p && finite_vector v) (kept_off (injection_at t c p v) (acc t p) (each t p)) seven

    stage4_off : (a1 a2 a3 : Vector) → off_by ok (stage4 acc (keeping acc) h s a1 a2 a3) ≡ true
    stage4_off a1 a2 a3 =
        let P = along (position s) (step_h h) (velocity3 h s a2) in
        then_off (acc (s.moment + h) P) (lastly (keeping acc) h s a1 a2 a3) (each (s.moment + h) P)
        (λ a4.
        arrive_off (s.moment + h) s.centre
        (along (position s) (sixth h) (weighed (velocity s) (velocity2 h s a1) (velocity3 h s a2) (velocity4 h s a3)))
        (along (velocity s) (sixth h) (weighed a1 a2 a3 a4)))

    stage3_off : (a1 a2 : Vector) → off_by ok (stage3 acc (keeping acc) h s a1 a2) ≡ true
    stage3_off a1 a2 =
        let P = along (position s) (half h) (velocity2 h s a1) in
        then_off (acc (s.moment + h / 2) P) (stage4 acc (keeping acc) h s a1 a2) (each (s.moment + h / 2) P) (stage4_off a1 a2)

    stage2_off : (a1 : Vector) → off_by ok (stage2 acc (keeping acc) h s a1) ≡ true
    stage2_off a1 =
        let P = along (position s) (half h) (velocity s) in
        then_off (acc (s.moment + h / 2) P) (stage3 acc (keeping acc) h s a1) (each (s.moment + h / 2) P) (stage3_off a1)

  pub step_off : (b : List ℕ) (setting : Setting) (h : ℕ) (s : State) → off_by ok (step b setting h s) ≡ true
  unfolding step
  step_off b setting h s = stage2_off (acceleration_at b setting s.centre) (rule_refused ok six seven b setting s.centre) h s (acceleration s)

  module _ (f : State → Moved) (steps : (s : State) → off_by ok (f s) ≡ true) (target : ℕ) where
    after_off : (rest : State → Reached) (s : State) (m : Moved) → ((next : State) → outcome_by ok (rest next).outcome ≡ true) → off_by ok m ≡ true
        → outcome_by ok (afterwards rest s m).outcome ≡ true
    after_off rest s (Ok next) later here = later next
    after_off rest s (Err k) later here = here

    run_off : (budget : ℕ) (s : State) → outcome_by ok (run_to f target budget s).outcome ≡ true
    unfolding run_to
    run_off zero s = by_if (λ (r : Reached). outcome_by ok r.outcome) (at_target target s) refl refl
    run_off (suc budget) s =
        by_if (λ (r : Reached). outcome_by ok r.outcome) (at_target target s) refl
        (after_off (run_to f target budget) s (f s) (run_off budget) (steps s))

  module _ (one : ok Refusal.Book ≡ true) (four : ok Refusal.Setting ≡ true) (fourteen : ok Refusal.Centre ≡ true) (three : ok Refusal.Moment ≡ true) (fifteen : ok Refusal.Stored ≡ true) (two : ok Refusal.Step ≡ true)
      (five : ok Refusal.Target ≡ true) where
    stored_by_off : (s : State) (a : Result Vector Refusal) → refused_by ok a ≡ true → refused_by ok (stored_check_by s a) ≡ true
    stored_by_off s (Ok a) e = by_if (refused_by ok) (same_vector a (acceleration s)) refl fifteen
    stored_by_off s (Err k) e = e

    stored_off : (b : List ℕ) (setting : Setting) (s : State) → refused_by ok (stored_check b setting s) ≡ true
    unfolding stored_check
    stored_off b setting s = stored_by_off s (rule_at b setting (bare s)) (rule_refused ok six seven b setting s.centre s.moment (position s))

    all_off : (c later : Checked) → refused_by ok c ≡ true → refused_by ok later ≡ true → refused_by ok (c before later) ≡ true
    all_off (Ok tt) later first rest = rest
    all_off (Err k) later first rest = first

    -- no refusal, or one of the checks
    start_off : (b : List ℕ) (setting : Setting) (s : State) (h target : ℕ) → refused_by ok (start_checks b setting s h target) ≡ true
    unfolding start_checks inputs_checks target_checks
    start_off b setting s h target =
        common_meets (refused_by ok) Err _ one four fourteen three seven
        (all_off (stored_check b setting s) _ (stored_off b setting s)
        (all_off _ _ (by_if (refused_by ok) (step_allowed h) refl two) (by_if (refused_by ok) (within_steps s.moment h target) refl five)))
        b setting (centre_allowed setting s.centre) (is_moment s.moment && is_moment target) (finite_state s)

    -- a run only with 1, 4, 14, 3, 7, 6, 15, 2 and 5
    pub run_refused_lem : (b : List ℕ) (setting : Setting) (s : State) (h target budget : ℕ) (given : Guesses)
        → outcome_by ok (run_answer b setting s h target budget given).outcome ≡ true
    unfolding run_answer
    run_refused_lem b setting s h target budget given = go (start_checks b setting s h target) (start_off b setting s h target)
      where
        go : (c : Checked) → refused_by ok c ≡ true
            → outcome_by ok (checked c (with_guesses b setting given (run_to (step b setting h) target budget s))
            (λ k. refused_at_once k s given)).outcome ≡ true
        go (Ok tt) e = run_off (step b setting h) (step_off b setting h) target budget s
        go (Err k) e = e

-- "refused by 6 or 7 alone"
pub six_or_seven : (b : List ℕ) (setting : Setting) (h : ℕ) (k : Refusal) (s : State) → step b setting h s ≡ Err k → (k ≡ Refusal.Cover) ⊎ (k ≡ Refusal.NotFinite)
six_or_seven b setting h k s e =
    go (number_of k =? 6) (number_of k =? 7) refl refl (sym (ap (off_by six_seven) e) ∙ step_off six_seven refl refl b setting h s)
  where
    six_seven : Refusal → Bool
    six_seven j = (number_of j =? 6) || (number_of j =? 7)

    named : (j : Refusal) (n : ℕ) → number_of k ≡ n → refusal_of n ≡ Some j → k ≡ j
    named j n is reads = let same : Some k ≡ Some j = sym (reads_back k) ∙ ap refusal_of is ∙ reads in cc

    go : (six seven : Bool) → (number_of k =? 6) ≡ six → (number_of k =? 7) ≡ seven → (six || seven) ≡ true → (k ≡ Refusal.Cover) ⊎ (k ≡ Refusal.NotFinite)
    go true seven is or e = inl (named Refusal.Cover 6 (eqb-true (number_of k) 6 is) refl)
    go false true is or e = inr (named Refusal.NotFinite 7 (eqb-true (number_of k) 7 or) refl)
    go false false is or e = absurd (true≢false (sym e))
