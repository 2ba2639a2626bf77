-- Checks in an order: "the first of these that holds".
use Rattle.std.specs.Prelude.{Bool, true, Result, Ok, Err}
use Rattle.base.specs.Choice.{if◌then◌otherwise◌}
use Rattle.base.specs.declared.Refusal.{Refusal}

-- what checks answer: nothing, or a refusal
abbrev pub Checked : Type 0
Checked = Result (Unit {0}) Refusal

-- a check that holds, or refuses
abbrev pub require : Bool → Refusal → Checked
require ok refusal = if ok then Ok tt otherwise Err refusal

-- checks before an answer: the answer if they hold, else what it is for their refusal
abbrev pub checked : {A : Type 0} → Checked → A → (Refusal → A) → A
checked (Ok held) answer refused = answer
checked (Err refusal) answer refused = refused refusal

infixr 10 ◌before◌
abbrev pub ◌before◌ : {A : Type 0} → Checked → Result A Refusal → Result A Refusal
checks before answer = checked checks answer Err

-- if an answer is a refusal, whether it meets a test
abbrev pub refused_by : {A : Type 0} → (Refusal → Bool) → Result A Refusal → Bool
refused_by ok (Ok answer) = true
refused_by ok (Err refusal) = ok refusal
