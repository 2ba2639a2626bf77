-- The form of a listing as a whole (document 02, R-1): a lone refusal, or a header, states whose moments rise, and an outcome.
-- "Form is judged line by line, not by h or the step count; a missing line is the one after the last."
use Rattle.std.specs.Prelude.{ℕ, ◌+◌, Bool, true, false, List, [], ◌∷◌, ◌++◌, map, Option, Some, None}
use Rattle.base.specs.Choice.{if◌then◌otherwise◌, ◌<?◌, ◌=?◌}
use Rattle.listing_scan.specs.declared.Row.{Row}
use Rattle.listing_scan.specs.declared.Line.{Line}
use Rattle.listing_scan.specs.declared.Line.TheVariants as line
use Rattle.listing_read.specs.declared.Place.{Place}
use Rattle.listing_read.specs.declared.Place.TheVariants.{Top, First, After, Done, Off}
use Rattle.listing_scan.specs.Reading.{kind_of}

-- the lines of a text: each ends at a line feed, which the last may lack
abbrev pub in_first : ℕ → List (List ℕ) → List (List ℕ)
in_first b [] = (b ∷ []) ∷ []
in_first b (l ∷ ls) = (b ∷ l) ∷ ls

unfoldable pub lines_of : List ℕ → List (List ℕ)
lines_of [] = []
lines_of (b ∷ bs) = if b =? 10 then [] ∷ lines_of bs otherwise in_first b (lines_of bs)

unfoldable pub kinds_of : List ℕ → List Line
kinds_of text = map kind_of (lines_of text)

-- the state that a line holds, if it holds one
abbrev pub row_of : Line → Option Row
row_of (line.State r) = Some r
row_of line.Header = None
row_of line.Outcome = None
row_of line.Lone = None
row_of line.Bad = None

abbrev pub found_rows : Option Row → List Row
found_rows None = []
found_rows (Some r) = r ∷ []

-- "whose moments do not rise" is not of the form
abbrev pub later : ℕ → ℕ → Place
later t moment = if t <? moment then After moment otherwise Off

-- the first line is a header or a lone refusal
abbrev pub after_top : Line → Place
after_top line.Header = First
after_top line.Lone = Done
after_top (line.State r) = Off
after_top line.Outcome = Off
after_top line.Bad = Off

-- after the header: a state
abbrev pub headed : Option Row → Place
headed (Some r) = After r.moment
headed None = Off

abbrev pub after_header : Line → Place
after_header l = headed (row_of l)

-- after a state: one of a later moment, or the outcome
abbrev pub after_state : ℕ → Line → Place
after_state t (line.State r) = later t r.moment
after_state t line.Outcome = Done
after_state t line.Header = Off
after_state t line.Lone = Off
after_state t line.Bad = Off

-- the stage of the reading after one more line; after the outcome no line is of the form
abbrev pub placed : Place → Line → Place
placed Top l = after_top l
placed First l = after_header l
placed (After t) l = after_state t l
placed Done l = Off
placed Off l = Off

abbrev pub is_off : Place → Bool
is_off Off = true
is_off Top = false
is_off First = false
is_off (After t) = false
is_off Done = false

-- at the end of the text: after the outcome nothing is missing, otherwise line n is
abbrev pub missing : Place → ℕ → ℕ
missing Done n = 0
missing Top n = n
missing First n = n
missing (After t) n = n
missing Off n = n

-- the number of the first line that is not of the form, if line n is next at a stage of the reading; 0 if all are of the form
unfoldable pub refused_from : Place → ℕ → List Line → ℕ
refused_from p n [] = missing p n
refused_from p n (l ∷ ls) = if is_off (placed p l) then n otherwise refused_from (placed p l) (n + 1) ls

-- "13 with its line number"; 0 for a text that is a listing
unfoldable pub form_refusal : List ℕ → ℕ
form_refusal text = refused_from Top 1 (kinds_of text)

-- the states of a listing, in order
unfoldable pub rows_of : List Line → List Row
rows_of [] = []
rows_of (l ∷ ls) = found_rows (row_of l) ++ rows_of ls

abbrev pub rows_in : List ℕ → List Row
rows_in text = rows_of (kinds_of text)
