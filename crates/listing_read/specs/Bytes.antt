-- How a listing is read byte by byte, in blocks.
use Rattle.listing_scan.specs.declared.Row.{Row}
use Rattle.std.specs.Prelude.{ℕ, ◌+◌, ◌≤◌, List, [], ◌∷◌, ◌++◌, map, ◌≡◌, length, drop, Option, Some, None}
use Rattle.base.specs.Choice.{if◌then◌otherwise◌, ◌<?◌, ◌=?◌}
use Rattle.listing_scan.specs.declared.Line.{Line}
use Rattle.listing_scan.specs.declared.Line.TheVariants as line
use Rattle.listing_scan.specs.declared.Scan.{Scan}
use Rattle.listing_scan.specs.declared.Scan.TheVariants.{Start}
use Rattle.listing_read.specs.declared.Place.{Place}
use Rattle.listing_read.specs.declared.Place.TheVariants.{Top}
use Rattle.listing_read.specs.declared.Judge.{Judge}
use Rattle.listing_read.specs.declared.Verdict.{Verdict}
use Rattle.listing_read.specs.declared.Next.{Next}
use Rattle.listing_read.specs.Form.{lines_of, row_of, found_rows, placed, is_off, missing, refused_from, rows_of}
use Rattle.listing_scan.specs.Reading.{kind_of}
use Rattle.listing_scan.specs.Bytes.{told, begun, on_byte}

-- the kinds of the lines of a text; the scan has read some bytes of the first line before
abbrev pub kinds_after : Scan → List (List ℕ) → List Line
kinds_after s [] = if begun s then told s [] ∷ [] otherwise []
kinds_after s (l ∷ ls) = told s l ∷ map kind_of ls

unfoldable pub kinds_from : Scan → List ℕ → List Line
kinds_from s text = kinds_after s (lines_of text)

-- the place of the first byte of the last line. The last line seen starts at `last`, the one being read at `from`, and the text at `at`.
unfoldable pub last_start : ℕ → ℕ → ℕ → List ℕ → ℕ
last_start last from at [] = if from <? at then from otherwise last
last_start last from at (b ∷ rest) = if b =? 10 then last_start from (at + 1) (at + 1) rest otherwise last_start last from (at + 1) rest

-- the result of reading a listing, by the rest of its text
abbrev pub refusal_with : Judge → List ℕ → ℕ
refusal_with j rest = refused_from j.place j.line (kinds_from j.scan rest)

abbrev pub count_with : Judge → List ℕ → ℕ
count_with j rest = j.rows + length (rows_of (kinds_from j.scan rest))

abbrev pub outcome_with : Judge → List ℕ → ℕ
outcome_with j rest = last_start j.last j.from j.read rest

-- one more line, unless it is not of the form; one more state
abbrev pub line_after : Place → ℕ → ℕ
line_after q n = if is_off q then n otherwise n + 1

abbrev pub rows_after : Line → ℕ → ℕ
rows_after (line.State r) n = n + 1
rows_after line.Header n = n
rows_after line.Outcome n = n
rows_after line.Lone n = n
rows_after line.Bad n = n

-- the line that is being read ends, and the next starts at a place
abbrev pub line_ended : Judge → ℕ → Judge
line_ended j next =
    let q = placed j.place (told j.scan []) in
    record {
      place = q;
      scan = Start;
      line = line_after q j.line;
      rows = rows_after (told j.scan []) j.rows;
      read = next;
      from = next;
      last = j.from;
    }

-- there are at most as many lines and states as bytes, and a line has begun if bytes of it have been read
pub record Counted (j : Judge) : Type 0 where
  pub lines : j.line ≤ j.read + 1
  pub states : j.rows ≤ j.read
  pub start : j.from ≤ j.read
  pub fresh : begun j.scan ≡ (j.from <? j.read)

-- r is the reading j after some more bytes
pub record Goes (j : Judge) (bytes : List ℕ) (r : Judge) : Type 0 where
  pub refusal : (rest : List ℕ) → refusal_with j (bytes ++ rest) ≡ refusal_with r rest
  pub count : (rest : List ℕ) → count_with j (bytes ++ rest) ≡ count_with r rest
  pub outcome : (rest : List ℕ) → outcome_with j (bytes ++ rest) ≡ outcome_with r rest
  pub read : r.read ≡ j.read + length bytes
  pub counted : Counted r

-- before the first byte
abbrev pub at_top : Judge
at_top = record { place = Top; scan = Start; line = 1; rows = 0; read = 0; from = 0; last = 0 }

-- the verdict on a listing: the refused line or 0, the number of states, and where the last line starts
abbrev pub verdict_of : Judge → List ℕ → Verdict
verdict_of j rest = record { refusal = refusal_with j rest; rows = count_with j rest; outcome = outcome_with j rest }

-- the verdict if the text ends between two lines
abbrev pub closed : Judge → Verdict
closed j = record { refusal = missing j.place j.line; rows = j.rows; outcome = j.last }

-- a byte ends the line of a state if it is a line feed
abbrev pub row_here : Scan → ℕ → Option Row
row_here s b = if b =? 10 then row_of (told s []) otherwise None

-- after one more byte of the text: a line feed starts a new line
abbrev pub behind_byte : Scan → ℕ → Scan
behind_byte s b = if b =? 10 then Start otherwise on_byte s b

-- the search ends at a state, otherwise it continues
abbrev pub found_or : Option Row → Scan → ℕ → Next → Next
found_or (Some r) s at later = record { found = Some r; scan = s; at = at }
found_or None s at later = later

-- the first state whose line ends in some bytes, which begin at `at`. The scan and the place are those after its line feed, or after all
-- bytes if none ends there.
unfoldable pub searched : List ℕ → ℕ → Scan → Next
searched [] at s = record { found = None; scan = s; at = at }
searched (b ∷ bytes) at s = found_or (row_here s b) (behind_byte s b) (at + 1) (searched bytes (at + 1) (behind_byte s b))

-- the next state in a block from `at` on
abbrev pub next_row : List ℕ → ℕ → Scan → Next
next_row block at s = searched (drop at block) at s

-- laws of these: the states still to come are those found now and those to come after them
abbrev pub Passes : Scan → ℕ → Scan → Type 0
Passes s b r = (rest : List ℕ) → rows_of (kinds_from s (b ∷ rest)) ≡ found_rows (row_here s b) ++ rows_of (kinds_from r rest)

pub record Finds (block : List ℕ) (at : ℕ) (s : Scan) (n : Next) : Type 0 where
  pub rows : (rest : List ℕ) → rows_of (kinds_from s (drop at block ++ rest)) ≡ found_rows n.found ++ rows_of (kinds_from n.scan (drop n.at block ++ rest))
  pub ended : n.found ≡ None → length block ≤ n.at
