-- How a table is made byte by byte: the stages of reading, and what a portion of it is.
use Rattle.std.specs.Prelude.{ℕ, ◌+◌, ◌≤◌, ◌<◌, false, List, [], ◌∷◌, ◌++◌, ◌≡◌, length, take, drop, Some}
use Rattle.base.specs.Limits.{end_of_time}
use Rattle.text_write.specs.Written.{Wrote}
use Rattle.listing_read.specs.declared.Place.{Place}
use Rattle.listing_read.specs.declared.Place.TheVariants.{Top, First, After, Done, Off}
use Rattle.listing_scan.specs.declared.Scan.TheVariants.{Start}
use Rattle.listing_scan.specs.Bytes.{begun}
use Rattle.listing_read.specs.Bytes.{kinds_from}
use Rattle.table_blocks.specs.declared.Standing.{Standing}
use Rattle.table_blocks.specs.declared.Standing.TheVariants.{Going, Refused}
use Rattle.table_blocks.specs.declared.Step.{Step}
use Rattle.table_blocks.specs.declared.Portion.{Portion}
use Rattle.table_blocks.specs.declared.End.{End}
use Rattle.table_blocks.specs.Table.{Table, no_rows, behind, table_from}

-- the table of the rest of the text
unfoldable pub table_with : Standing → List ℕ → Table
table_with (Going place scan line) rest = table_from place line (kinds_from scan rest)
table_with (Refused r) rest = no_rows (Some r)

-- line n comes before a stage. Moments rise, so there are no more lines than milliseconds.
abbrev pub Held : Place → ℕ → Type 0
Held Top n = n ≤ 1
Held First n = n ≤ 2
Held (After t) n = (n ≤ t + 3) × (t < end_of_time)
Held Done n = n ≤ end_of_time + 3
Held Off n = ⊥

unfoldable pub Stands : Standing → Type 0
Stands (Going place scan line) = Held place line
Stands (Refused r) = 0 ≤ r.line

-- no byte of the line has been read
unfoldable pub Fresh : Standing → Type 0
Fresh (Going place scan line) = begun scan ≡ false
Fresh (Refused r) = 0 ≤ r.line

-- some more bytes: what is written for them, and the stage after them
pub record Steps (from : Standing) (bytes before : List ℕ) (at : ℕ) (after : List ℕ) (s : Step) : Type 0 where
  pub text : List ℕ
  pub wrote : Wrote before at text after s.next
  pub table : (rest : List ℕ) → table_with from (bytes ++ rest) ≡ behind text (table_with s.standing rest)
  pub short : s.next ≤ at + 157
  pub stands : Stands s.standing

-- one more line feed
pub record Feeds (from : Standing) (before : List ℕ) (at : ℕ) (after : List ℕ) (s : Step) : Type 0 where
  pub steps : Steps from (10 ∷ []) before at after s
  pub fresh : Fresh s.standing

-- a portion: the rows of the bytes from a place of a block on, as many as there is room for. The text in out afterwards and the table of
-- the rest make up the table before it.
pub record Tabled (block : List ℕ) (at : ℕ) (from : Standing) (before after : List ℕ) (p : Portion) : Type 0 where
  pub table : (rest : List ℕ) → table_with from (drop at block ++ rest) ≡ behind (take p.written after) (table_with p.standing (drop p.at block ++ rest))
  pub within : p.written ≤ length after
  pub kept : drop p.written after ≡ drop p.written before
  pub stands : Stands p.standing
  pub ends : p.at < length block → length after < p.written + 157
  pub moves : at < length block → 157 ≤ length after → at < p.at

-- the end of the text
pub record Ends (from : Standing) (before after : List ℕ) (e : End) : Type 0 where
  pub text : List ℕ
  pub wrote : Wrote before 0 text after e.next
  pub table : table_with from [] ≡ behind text (no_rows e.refused)

abbrev pub opened : Standing
opened = Going Top Start 1
