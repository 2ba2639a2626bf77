-- The result of an exported call for its caller: the number that it returns, and the contents of the memory that it may write.
use Rattle.std.specs.Prelude.{ℕ, Result, Ok, Err}
use Rattle.base.specs.Refusals.{number_of}
use Rattle.base.specs.declared.Refusal.{Refusal}

-- the result of a call: the number returned, and the contents of the caller's memory afterwards
pub record Handed (A : Type 0) : Type 0 where
  pub returned : ℕ
  pub memory : A

abbrev pub handed : {A : Type 0} → ℕ → A → Handed A
handed returned memory = record { returned = returned; memory = memory }

-- 0 and the values if it is accepted; "every refusal returns the number alone", and leaves the memory unchanged
abbrev pub answered : {A : Type 0} → A → Result A Refusal → Handed A
answered before (Ok values) = handed 0 values
answered before (Err refusal) = handed (number_of refusal) before

-- an answer as it is written to memory
abbrev pub written : {V A : Type 0} → (V → A) → Result V Refusal → Result A Refusal
written layout (Ok value) = Ok (layout value)
written layout (Err refusal) = Err refusal
