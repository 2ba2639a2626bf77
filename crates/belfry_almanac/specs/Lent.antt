-- How groups of numbers are written to the caller's memory.
use Rattle.std.specs.Prelude.{ℕ, List, [], ◌∷◌, Float}
use Rattle.calendar.specs.declared.Calendar.{Calendar}
use Rattle.sine.specs.declared.SineCosine.{SineCosine}
use Rattle.book.specs.declared.Motion.{Motion}

abbrev pub date_in : Calendar → List ℕ
date_in date = date.year ∷ date.month ∷ date.day ∷ []

abbrev pub sine_cosine_in : SineCosine → List Float
sine_cosine_in both = both.sine ∷ both.cosine ∷ []

abbrev pub motion_in : Motion → List Float
motion_in m = m.place.x ∷ m.place.y ∷ m.place.z ∷ m.velocity.x ∷ m.velocity.y ∷ m.velocity.z ∷ []
