-- The text that `ask` prints for a line.
use Rattle.std.specs.Prelude.{ℕ, List}
use Rattle.base.specs.Refusals.{number_of}
use Rattle.line_form.specs.Spelled.{line_text}
use Rattle.line_answers.specs.Calls.{answer_to}
use Rattle.line_texts.specs.Text.{answer_items}

-- the answer to the line by the book, spelled
abbrev pub answer_text : List ℕ → List ℕ → List ℕ
answer_text book line = line_text (answer_items number_of (answer_to book line))
