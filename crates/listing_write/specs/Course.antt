-- How the listing of a run is written in portions: the text that is still to be written at a place of the run.
use Rattle.std.specs.Prelude.{ℕ, zero, suc, ◌+◌, ◌*◌, ◌<◌, ◌≤◌, true, List, ◌++◌, ◌≡◌, length, take, drop, Ok, Err}
use Rattle.base.specs.Limits.{end_of_time}
use Rattle.base.specs.declared.Refusal.{Refusal}
use Rattle.state.specs.State.{centre_allowed}
use Rattle.state.specs.declared.State.{State}
use Rattle.state.specs.declared.Setting.{Setting}
use Rattle.book.specs.Passes.{passes}
use Rattle.gravity.specs.declared.Guesses.{Guesses}
use Rattle.run.specs.Step.{Moved, step}
use Rattle.run.specs.declared.Outcome.{Outcome}
use Rattle.run.specs.declared.Outcome.TheVariants.{Arrived, Going, Refused}
use Rattle.listing_write.specs.Lines.{state_line, outcome_line}
use Rattle.listing_write.specs.Strip.{steps_to}
use Rattle.listing_write.specs.declared.Course.{Course}
use Rattle.listing_write.specs.declared.Portion.{Portion}

-- what follows the line of a state, `left` steps from the target and with `done` steps done
abbrev pub after_step : (State → List ℕ) → ℕ → Moved → List ℕ
after_step later done (Ok next) = state_line next ++ later next
after_step later done (Err k) = outcome_line (Refused k) done

unfoldable pub course_text : (State → Moved) → ℕ → ℕ → State → List ℕ
course_text f zero done s = outcome_line Arrived done
course_text f (suc left) done s = after_step (course_text f left (done + 1)) done (f s)

-- what is left to write after a portion
abbrev pub remains : (State → Moved) → Course → Outcome Refusal → List ℕ
remains f c Going = course_text f c.left c.done c.state
remains f c Arrived = outcome_line Arrived c.done
remains f c (Refused k) = outcome_line (Refused k) c.done

-- the steps left end before the end of time
pub record OnCourse (b : List ℕ) (setting : Setting) (h : ℕ) (c : Course) : Type 0 where
  pub pass : passes b ≡ true
  pub centred : centre_allowed setting c.state.centre ≡ true
  pub inside : c.state.moment + c.left * h < end_of_time
  pub counts : c.done + c.left < end_of_time

-- no line of a state is longer
abbrev pub longest_line : ℕ
longest_line = 123

-- a portion from the place c on: the lines written to out, where the portion ended, and that the rest of out is unchanged
pub record Advanced (b : List ℕ) (setting : Setting) (h : ℕ) (c : Course) (before out : List ℕ) (p : Portion) : Type 0 where
  pub text : course_text (step b setting h) c.left c.done c.state ≡ take p.written out ++ remains (step b setting h) p.course p.outcome
  pub within : p.written ≤ length out
  pub rest : drop p.written out ≡ drop p.written before
  pub onward : OnCourse b setting h p.course
  pub nearer : p.outcome ≡ Going → longest_line ≤ length out → p.course.left < c.left

abbrev pub portion_of : Outcome Refusal → State → Guesses → ℕ → ℕ → ℕ → Portion
portion_of outcome s entries left done written =
    record { outcome = outcome; course = record { state = s; entries = entries; left = left; done = done }; written = written }

-- the start of a run with steps of h: no guesses are known yet
abbrev pub start_of : State → ℕ → ℕ → Course
start_of s h target =
    record { state = s; entries = record { moon = 0; sun = 0; venus = 0; mars = 0; jupiter = 0 }; left = steps_to s h target; done = 0 }
