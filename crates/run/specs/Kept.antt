-- The state of the loop over the steps: the guesses from step to step, and how far it has come.
use Rattle.std.specs.Prelude.{Bool, true, false, List, ◌≡◌, ℕ, ◌+◌, ◌-◌, ◌*◌, ◌≤◌, ◌<◌, Float}
use Rattle.base.specs.Choice.{if◌then◌otherwise◌}
use Rattle.base.specs.Limits.{end_of_time}
use Rattle.book.specs.Passes.{passes}
use Rattle.state.specs.State.{used, centre_allowed, looked_up}
use Rattle.state.specs.declared.Setting.{Setting}
use Rattle.state.specs.declared.State.{State}
use Rattle.gravity.specs.declared.Guesses.{Guesses}
pub use Rattle.step_end.specs.Kept.{kept}
pub use Rattle.step.specs.Entries.{entries_after, MayStep}
use Rattle.step.specs.Step.{step}
use Rattle.run_checks.specs.Start.{within_steps}
use Rattle.run.specs.Run.{Reached, run_to, guesses_after}

abbrev pub guess_from : Float → Bool → ℕ → ℕ → ℕ
guess_from m lit entry given = if looked_up m lit then entry otherwise given

abbrev pub guesses_from : Setting → Guesses → Guesses → Guesses
guesses_from setting entries given =
    record {
      moon = guess_from setting.moon false entries.moon given.moon;
      sun = guess_from setting.sun (used setting.k) entries.sun given.sun;
      venus = guess_from setting.venus false entries.venus given.venus;
      mars = guess_from setting.mars false entries.mars given.mars;
      jupiter = guess_from setting.jupiter false entries.jupiter given.jupiter;
    }

-- a run's outcome after n steps more
abbrev pub counted_by : ℕ → Reached → Reached
counted_by n r = record { outcome = r.outcome; steps = n + r.steps; state = r.state }

-- what a run that passed its checks may rely on
pub record MayWalk (b : List ℕ) (setting : Setting) (s : State) (h target : ℕ) : Type 0 where
  pub pass : passes b ≡ true
  pub centred : centre_allowed setting s.centre ≡ true
  pub long : 2 ≤ h
  pub reachable : within_steps s.moment h target ≡ true
  pub ends : target < end_of_time

-- the loop after n steps: the rest of the run starts from `now`
pub record Walking (b : List ℕ) (setting : Setting) (start : State) (h target budget : ℕ) (given : Guesses) (now : State) (guesses : Guesses) (n : ℕ) : Type 0 where
  pub within : n ≤ budget
  pub rest : run_to (step b setting h) target budget start ≡ counted_by n (run_to (step b setting h) target (budget - n) now)
  pub centred : centre_allowed setting now.centre ≡ true
  pub guess : guesses ≡ guesses_after b setting n now.moment given
  pub left : ℕ
  pub reach : now.moment + left * h ≡ target
