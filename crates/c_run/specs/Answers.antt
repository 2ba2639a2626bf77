-- What an exported call under a book returns and writes to the caller's memory, for each answer of the call below it.
use Rattle.base.specs.declared.Refusal.{Refusal}
use Rattle.state.specs.declared.State.{State}
use Rattle.std.specs.Prelude.{ℕ, List, Float, Result}
use Rattle.run.specs.declared.Outcome.{Outcome}
use Rattle.run.specs.declared.RunAnswer.{RunAnswer}
use Rattle.base.specs.Refusals.{number_of}
use Rattle.c_answer.specs.Handed.{written}
use Rattle.c_state.specs.Groups.{coordinates_in, whole_in}
pub use Rattle.c_gravity.specs.Answers.{of_acceleration, of_injection}
use Rattle.c_run.specs.Lent.{guesses_in}

-- a move does not change the moment, and the new centre was given
abbrev pub of_move : Result State Refusal → Result (List Float) Refusal
of_move answer = written whole_in answer

-- what a run returns: 0 arrived, 100 going, else the refusal number, for any refusal whose number is told
abbrev pub going : ℕ
going = 100

abbrev pub number_by : {R : Type 0} → (R → ℕ) → Outcome R → ℕ
number_by told Outcome.Arrived = 0
number_by told Outcome.Going = going
number_by told (Outcome.Refused k) = told k

abbrev pub outcome_number : Outcome Refusal → ℕ
outcome_number outcome = number_by number_of outcome

-- what a run returns, and what it writes to each place of the caller's memory, for every outcome
pub record RunMemory : Type 0 where
  pub returned : ℕ
  pub moment : ℕ
  pub coordinates : List Float
  pub guesses : List ℕ
  pub steps : ℕ

abbrev pub run_memory : ℕ → ℕ → List Float → List ℕ → ℕ → RunMemory
run_memory returned moment coordinates guesses steps =
    record { returned = returned; moment = moment; coordinates = coordinates; guesses = guesses; steps = steps }

-- the state given by these coordinates
abbrev pub of_run_in : {R : Type 0} → (R → ℕ) → List Float → RunAnswer R → RunMemory
of_run_in told coordinates answer =
    run_memory (number_by told answer.outcome) answer.state.moment coordinates (guesses_in answer.guesses) answer.steps

-- an old call has no place for the acceleration
abbrev pub of_run_by : {R : Type 0} → (R → ℕ) → RunAnswer R → RunMemory
of_run_by told answer = of_run_in told (coordinates_in answer.state) answer

abbrev pub of_run : RunAnswer Refusal → RunMemory
of_run answer = of_run_by number_of answer

abbrev pub of_flight_by : {R : Type 0} → (R → ℕ) → RunAnswer R → RunMemory
of_flight_by told answer = of_run_in told (whole_in answer.state) answer

abbrev pub of_flight : RunAnswer Refusal → RunMemory
of_flight answer = of_flight_by number_of answer
