-- Document 02, R-13, "Tables for the graphics house": the table of a text, as one definition, refusals included.
-- "Refusals: what R-1 refuses is 13, a magnitude of 10^12 or more 17, each with its line; the first such line decides, and rows before it have been written."
use Rattle.std.specs.Prelude.{ℕ, ◌+◌, List, [], ◌∷◌, ◌++◌, Option, Some, None}
use Rattle.base.specs.Choice.{if◌then◌otherwise◌}
use Rattle.base.specs.Limits.{is_moment}
use Rattle.base.specs.Refusals.{number_of}
use Rattle.base.specs.declared.Refusal.{Refusal}
use Rattle.base.specs.declared.Refusal.TheVariants.{Listing, Large}
use Rattle.text_write.specs.Numerals.{decimal_of}
use Rattle.listing_words.specs.Words.{space, line_feed, refused_word}
use Rattle.listing_scan.specs.declared.Row.{Row}
use Rattle.listing_scan.specs.declared.Line.{Line}
use Rattle.listing_read.specs.declared.Place.{Place}
use Rattle.listing_read.specs.declared.Place.TheVariants.{Top, First, After, Done, Off}
use Rattle.listing_read.specs.Form.{kinds_of, row_of, placed, is_off}
use Rattle.table_blocks.specs.declared.RefusedLine.{RefusedLine}
use Rattle.table_rows.specs.Text.{heading, row_text, has_large}

-- rows, and the refusal after them with its line, if there is one
pub record Table : Type 0 where
  pub rows : List ℕ
  pub refused : Option RefusedLine

abbrev pub no_rows : Option RefusedLine → Table
no_rows refused = record { rows = []; refused = refused }

abbrev pub over : Table
over = no_rows None

abbrev pub refused_by : Refusal → ℕ → Table
refused_by refusal line = no_rows (Some (record { number = number_of refusal; line = line }))

-- the table after some rows
abbrev pub behind : List ℕ → Table → Table
behind text t = record { rows = text ++ t.rows; refused = t.refused }

-- for a state 13 comes before 17: a moment out of range, then a component that is too large
abbrev pub state_refusal : Row → Option Refusal
state_refusal r = if is_moment r.moment then (if has_large r then Some Large otherwise None) otherwise Some Listing

abbrev pub found_refusal : Option Row → Option Refusal
found_refusal None = None
found_refusal (Some r) = state_refusal r

-- the check of a line by the stage that it leads to: 13 if it is not of R-1's form
abbrev pub refusal_at : Place → Option Row → Option Refusal
refusal_at place found = if is_off place then Some Listing otherwise found_refusal found

-- the line of a state gives a row, any other line none
abbrev pub found_text : Option Row → List ℕ
found_text None = []
found_text (Some r) = row_text r

-- the end of the text: after the outcome nothing is missing, otherwise the line after the last is
abbrev pub at_end : Place → ℕ → Table
at_end Done n = over
at_end Top n = refused_by Listing n
at_end First n = refused_by Listing n
at_end (After t) n = refused_by Listing n
at_end Off n = refused_by Listing n

-- a table, unless line n before it is refused
abbrev pub unless_refused : Option Refusal → ℕ → Table → Table
unless_refused None n t = t
unless_refused (Some refusal) n t = refused_by refusal n

-- the table of the lines from line n on, at a stage of the reading before it
unfoldable pub table_from : Place → ℕ → List Line → Table
table_from p n [] = at_end p n
table_from p n (l ∷ ls) =
    unless_refused (refusal_at (placed p l) (row_of l)) n (behind (found_text (row_of l)) (table_from (placed p l) (n + 1) ls))

unfoldable pub table_of : List ℕ → Table
table_of text = behind heading (table_from Top 1 (kinds_of text))

-- REFUSED n LINE
unfoldable pub refused_text : ℕ → ℕ → List ℕ
refused_text number line = refused_word ++ decimal_of number ++ space ++ decimal_of line ++ line_feed

-- the same of a refusal; nothing if nothing is refused
unfoldable pub refusal_text : Option RefusedLine → List ℕ
refusal_text None = []
refusal_text (Some r) = refused_text r.number r.line

-- what the program writes for the text that it reads: to standard output, and to standard error
unfoldable pub written : List ℕ → List ℕ
written text = (table_of text).rows

unfoldable pub told : List ℕ → List ℕ
told text = refusal_text (table_of text).refused
