-- What an exported call writes to the caller's memory, for each answer of the call below it.
use Rattle.std.specs.Prelude.{ℕ, List, Float, Result}
use Rattle.base.specs.declared.Refusal.{Refusal}
use Rattle.calendar.specs.declared.Calendar.{Calendar}
use Rattle.sine.specs.declared.SineCosine.{SineCosine}
use Rattle.book.specs.declared.Motion.{Motion}
use Rattle.c_answer.specs.Handed.{written}
use Rattle.belfry_almanac.specs.Lent.{date_in, sine_cosine_in, motion_in}

abbrev pub of_date : Result Calendar Refusal → Result (List ℕ) Refusal
of_date answer = written date_in answer

abbrev pub of_sine_cosine : Result SineCosine Refusal → Result (List Float) Refusal
of_sine_cosine answer = written sine_cosine_in answer

abbrev pub of_position : Result Motion Refusal → Result (List Float) Refusal
of_position answer = written motion_in answer
