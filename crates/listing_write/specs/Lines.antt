-- Document 01, "strip": the lines that it prints. Each ends in a line feed, and one space separates its parts.
use Rattle.std.specs.Prelude.{ℕ, List, [], ◌++◌, Float}
use Rattle.base.specs.Refusals.{number_of}
use Rattle.base.specs.declared.Refusal.{Refusal}
use Rattle.state.specs.State.{position, velocity}
use Rattle.state.specs.declared.Vector.{Vector}
use Rattle.state.specs.declared.State.{State}
use Rattle.run.specs.declared.Outcome.{Outcome}
use Rattle.run.specs.declared.Outcome.TheVariants.{Arrived, Going, Refused}
use Rattle.text_write.specs.Numerals.{decimal_of, float_text}
use Rattle.listing_words.specs.Words.{space, line_feed, strip_word, arrived_word, refused_word}

-- a word, a number and the end of the line
abbrev pub numbered : List ℕ → ℕ → List ℕ
numbered word n = word ++ decimal_of n ++ line_feed

-- "a header with h"
unfoldable pub header_line : ℕ → List ℕ
header_line h = numbered strip_word h

-- "Floats are their bits as 16 lowercase hexadecimal digits"
abbrev pub spaced : Float → List ℕ
spaced x = space ++ float_text x

unfoldable pub vector_text : Vector → List ℕ
vector_text v = spaced v.x ++ spaced v.y ++ spaced v.z

-- a state: its moment, its position and its velocity
unfoldable pub state_line : State → List ℕ
state_line s = decimal_of s.moment ++ vector_text (position s) ++ vector_text (velocity s) ++ line_feed

-- "the outcome with steps done"
unfoldable pub arrived_line : ℕ → List ℕ
arrived_line n = numbered arrived_word n

-- "REFUSED 6 14 (number, steps)"
unfoldable pub refused_line : ℕ → ℕ → List ℕ
refused_line k n = refused_word ++ decimal_of k ++ numbered space n

-- a run with a budget for all its steps never answers going; the refusal may be any whose number is told
abbrev pub outcome_line_by : {R : Type 0} → (R → ℕ) → Outcome R → ℕ → List ℕ
outcome_line_by told Arrived n = arrived_line n
outcome_line_by told Going n = []
outcome_line_by told (Refused k) n = refused_line (told k) n

abbrev pub outcome_line : Outcome Refusal → ℕ → List ℕ
outcome_line outcome n = outcome_line_by number_of outcome n

-- "only REFUSED and the number"
unfoldable pub lone_refusal : ℕ → List ℕ
lone_refusal k = numbered refused_word k
