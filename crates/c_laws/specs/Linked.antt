-- A journey through the calls for C and Rust: each run reads the moment and the coordinates that the last one wrote.
use Rattle.std.specs.Prelude.{List, [], ◌∷◌, ℕ, Float}
use Rattle.gravity_stored.specs.Injection.{launched}
use Rattle.run.specs.Run.{run_answer}
use Rattle.run_laws.specs.Journey.{Call}
use Rattle.c_run.specs.Lent.{setting_of, no_extras, injection_of, state_of, guesses_of}
use Rattle.c_run.specs.Answers.{RunMemory, of_run, of_flight}

-- one call, with its guesses as in memory
pub record LinkedCall : Type 0 where
  pub budget : ℕ
  pub guesses : List ℕ

abbrev pub as_call : LinkedCall → Call
as_call call = record { budget = call.budget; guesses = guesses_of call.guesses }

-- the result of each call, under the coefficients m, the extras (J, A, K), DUT and the rule, about a centre; a run keeps its centre
abbrev pub linked_journey : List ℕ → List Float → List Float → ℕ → ℕ → ℕ → ℕ → ℕ → ℕ → List Float → List LinkedCall → List RunMemory
linked_journey b m extras dut rule centre h target moment coordinates [] = []
linked_journey b m extras dut rule centre h target moment coordinates (call ∷ calls) =
    let left = of_flight (run_answer b (setting_of m extras dut rule) (state_of moment centre coordinates) h target call.budget (guesses_of call.guesses)) in
    left ∷ linked_journey b m extras dut rule centre h target left.moment left.coordinates calls

-- the same through the old call, which has no place for the acceleration: each call means the one that the rule gives
abbrev pub old_journey : List ℕ → List Float → ℕ → ℕ → ℕ → ℕ → List Float → List LinkedCall → List RunMemory
old_journey b m dut h target moment coordinates [] = []
old_journey b m dut h target moment coordinates (call ∷ calls) =
    let setting = setting_of m no_extras dut 0 in
    let s = launched b setting (injection_of moment 1 coordinates) in
    let left = of_run (run_answer b setting s h target call.budget (guesses_of call.guesses)) in
    left ∷ old_journey b m dut h target left.moment left.coordinates calls
