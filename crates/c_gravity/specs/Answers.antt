-- What a call for the acceleration or an injection writes to the caller's memory.
use Rattle.std.specs.Prelude.{List, Float, Result}
use Rattle.base.specs.declared.Refusal.{Refusal}
use Rattle.state.specs.declared.Vector.{Vector}
use Rattle.state.specs.declared.State.{State}
use Rattle.c_answer.specs.Handed.{written}
use Rattle.c_state.specs.Groups.{vector_in, whole_in}

abbrev pub of_acceleration : Result Vector Refusal → Result (List Float) Refusal
of_acceleration answer = written vector_in answer

-- an injection does not change the moment, and its centre was given
abbrev pub of_injection : Result State Refusal → Result (List Float) Refusal
of_injection answer = written whole_in answer
