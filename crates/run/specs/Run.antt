-- Document 01, "The step and the run" and "Refusal numbers": the run call, for every input.
use Rattle.std.specs.Prelude.{Bool, false, List, ℕ, zero, suc, ◌+◌, Float, Ok, Err}
use Rattle.base.specs.Choice.{if◌then◌otherwise◌, ◌=?◌}
use Rattle.base.specs.Checks.{checked}
use Rattle.base.specs.declared.Refusal.{Refusal}
use Rattle.state.specs.State.{used, looked_up}
use Rattle.state.specs.declared.State.{State}
use Rattle.state.specs.declared.Setting.{Setting}
use Rattle.book.specs.Lookup.{lookup}
use Rattle.gravity.specs.Sight.{entry_or}
use Rattle.gravity.specs.declared.Guesses.{Guesses}
use Rattle.run_checks.specs.Start.{start_checks}
use Rattle.step.specs.Step.{Moved, step}
use Rattle.run.specs.declared.Outcome.{Outcome}
use Rattle.run.specs.declared.Outcome.TheVariants.{Arrived, Going, Refused}
use Rattle.run.specs.declared.RunAnswer.{RunAnswer}

-- the result of a run: its outcome, the steps done and the state reached
pub record Reached : Type 0 where
  pub outcome : Outcome Refusal
  pub steps : ℕ
  pub state : State

abbrev pub ended : Outcome Refusal → State → Reached
ended o s = record { outcome = o; steps = 0; state = s }

abbrev pub counted : Reached → Reached
counted r = record { outcome = r.outcome; steps = r.steps + 1; state = r.state }

abbrev pub at_target : ℕ → State → Bool
at_target target s = s.moment =? target

-- a step done counts; a refused step ends the run at the state before it
abbrev pub afterwards : (State → Reached) → State → Moved → Reached
afterwards rest s (Ok next) = counted (rest next)
afterwards rest s (Err k) = ended (Refused k) s

-- "It takes steps until the target is reached, the budget is spent, or a step is refused"
unfoldable pub run_to : (State → Moved) → ℕ → ℕ → State → Reached
run_to f target zero s = if at_target target s then ended Arrived s otherwise ended Going s
run_to f target (suc budget) s = if at_target target s then ended Arrived s otherwise afterwards (run_to f target budget) s (f s)

-- "If steps were done, each used body's returned guess is the entry covering the returned moment; all other guesses come back as given"; document 02, R-7: with K above 0 the Sun counts as used
abbrev pub guess_at : List ℕ → ℕ → ℕ → Float → Bool → ℕ → ℕ
guess_at b t number m lit given = if looked_up m lit then entry_or given (lookup b number t) otherwise given

unfoldable pub guesses_at : List ℕ → Setting → ℕ → Guesses → Guesses
guesses_at b s t given =
    record {
      moon = guess_at b t 2 s.moon false given.moon;
      sun = guess_at b t 3 s.sun (used s.k) given.sun;
      venus = guess_at b t 4 s.venus false given.venus;
      mars = guess_at b t 5 s.mars false given.mars;
      jupiter = guess_at b t 6 s.jupiter false given.jupiter;
    }

-- after n steps
abbrev pub guesses_after : List ℕ → Setting → ℕ → ℕ → Guesses → Guesses
guesses_after b s n t given = if n =? 0 then given otherwise guesses_at b s t given

-- "answers arrived, going or refused with the number of steps done"
abbrev pub handed_back : Outcome Refusal → ℕ → State → Guesses → RunAnswer Refusal
handed_back outcome steps state guesses = record { outcome = outcome; steps = steps; state = state; guesses = guesses }

abbrev pub with_guesses : List ℕ → Setting → Guesses → Reached → RunAnswer Refusal
with_guesses b s given r = handed_back r.outcome r.steps r.state (guesses_after b s r.steps r.state.moment given)

-- "state as given, 0 steps"
abbrev pub refused_at_once : Refusal → State → Guesses → RunAnswer Refusal
refused_at_once k s given = handed_back (Refused k) 0 s given

unfoldable pub run_answer : List ℕ → Setting → State → ℕ → ℕ → ℕ → Guesses → RunAnswer Refusal
run_answer b setting s h target budget given =
    checked (start_checks b setting s h target)
    (with_guesses b setting given (run_to (step b setting h) target budget s))
    (λ k. refused_at_once k s given)

-- "A single step is a run with budget 1 and the target one step on"
abbrev pub single_step_answer : List ℕ → Setting → State → ℕ → Guesses → RunAnswer Refusal
single_step_answer b setting s h given = run_answer b setting s h (s.moment + h) 1 given
