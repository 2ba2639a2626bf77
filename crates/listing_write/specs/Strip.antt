-- Document 01, "strip": the text that it prints, from the bytes that it reads. (02, R-7) strip144 has the same definition.
use Rattle.base.specs.declared.Refusal.{Refusal}
use Rattle.std.specs.Prelude.{ℕ, zero, suc, ◌-◌, ◌/◌, List, [], ◌∷◌, ◌++◌, drop, Result, Ok, Err}
use Rattle.base.specs.Checks.{checked}
use Rattle.base.specs.Refusals.{number_of}
use Rattle.state.specs.declared.State.{State}
use Rattle.run.specs.Step.{Moved, step}
use Rattle.gravity_stored.specs.Injection.{launched}
use Rattle.run_checks.specs.Start.{start_checks}
use Rattle.run.specs.Run.{run_to}
use Rattle.listing_write.specs.Lines.{header_line, state_line, outcome_line, lone_refusal}
use Rattle.strip_order.specs.Order.{order_length, read_order}
use Rattle.strip_order.specs.declared.Form.{Form}
use Rattle.strip_order.specs.declared.Order.{Order}

-- the states that up to n steps f reach after s, in order: a refused step ends them
abbrev pub and_then : (State → List State) → Moved → List State
and_then later (Ok next) = next ∷ later next
and_then later (Err k) = []

unfoldable pub states_after : (State → Moved) → ℕ → State → List State
states_after f zero s = []
states_after f (suc n) s = and_then (states_after f n) (f s)

unfoldable pub state_lines : List State → List ℕ
state_lines [] = []
state_lines (s ∷ rest) = state_line s ++ state_lines rest

-- "each state from the injection on, and the outcome with steps done"
abbrev pub run_text : (State → Moved) → ℕ → ℕ → State → List ℕ
run_text f target budget s =
    let r = run_to f target budget s in state_lines (s ∷ states_after f r.steps s) ++ outcome_line r.outcome r.steps

-- the number of steps of h from the state to the target
abbrev pub steps_to : State → ℕ → ℕ → ℕ
steps_to s h target = (target - s.moment) / h

-- "if the order or book is refused, only REFUSED and the number"; document 02, R-8: the injection of the order with the acceleration that
-- the rule gives it. "an injection without an acceleration is refused at once .. (strip prints the lone `REFUSED`)"
unfoldable pub order_text : List ℕ → Order → List ℕ
order_text book o =
    let s = launched book o.setting o.injection in
    checked (start_checks book o.setting s o.h o.target)
    (header_line o.h ++ run_text (step book o.setting o.h) o.target (steps_to s o.h o.target) s)
    (λ k. lone_refusal (number_of k))

abbrev pub answer_text : List ℕ → Result Order Refusal → List ℕ
answer_text book (Ok o) = order_text book o
answer_text book (Err k) = lone_refusal (number_of k)

-- an order, "then the book, to the end"
unfoldable pub strip_text : Form → List ℕ → List ℕ
strip_text form input = answer_text (drop (order_length form) input) (read_order form input)
