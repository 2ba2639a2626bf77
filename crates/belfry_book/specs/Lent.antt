-- What the exported call returns and writes to the caller's memory.
use Rattle.std.specs.Prelude.{ℕ, Option, Some, None, Result, Ok, Err}
use Rattle.base.specs.Refusals.{number_of}
use Rattle.base.specs.declared.Refusal.{Refusal}
use Rattle.c_answer.specs.Handed.{Handed, handed}

-- not a refusal: the second book does not hold an entry of the first
abbrev pub not_held : ℕ
not_held = 104

-- 0; 104 and the number of the missing entry; or the refusal number. The memory is written only with 104.
abbrev pub of_holds : ℕ → Result (Option ℕ) Refusal → Handed ℕ
of_holds before (Ok None) = handed 0 before
of_holds before (Ok (Some i)) = handed not_held i
of_holds before (Err refusal) = handed (number_of refusal) before
