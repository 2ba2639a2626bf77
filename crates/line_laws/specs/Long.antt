-- How many bytes a call may have.
use Rattle.std.specs.Prelude.{ℕ, ◌+◌, ◌*◌, Bool, true, ◌&&◌, List, [], ◌∷◌, length}
use Rattle.base.specs.Choice.{◌≤?◌}
use Rattle.line_answers.specs.Calls.{Question}

-- `ask` and `pane` keep one byte more of a line
abbrev pub longest : ℕ
longest = 1_000

-- a field has a space and at most a minus sign and 20 digits
abbrev pub widest : ℕ
widest = 22

-- a name and its fields
abbrev pub most : Question → ℕ
most q = length q.name + widest * length q.kinds

abbrev pub all_short : List Question → Bool
all_short [] = true
all_short (q ∷ qs) = (most q ≤? longest) && all_short qs
