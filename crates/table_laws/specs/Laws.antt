-- Definitions for the laws of a table: the blocks and portions of the program, one after the other.
use Rattle.std.specs.Prelude.{ℕ, ◌+◌, ◌≤◌, Bool, true, false, List, [], ◌∷◌, ◌++◌, ◌≡◌, length, take, Option, Some, None}
use Rattle.base.specs.Choice.{if◌then◌otherwise◌, ◌<?◌, ◌=?◌}
use Rattle.base.specs.declared.Refusal.TheVariants.{Listing, Large}
use Rattle.listing_scan.specs.declared.Row.{Row}
use Rattle.listing_scan.specs.declared.Line.{Line}
use Rattle.listing_read.specs.Form.{kinds_of, row_of, form_refusal}
use Rattle.text_write.specs.Written.{Wrote}
use Rattle.table_rows.specs.Text.{heading, row_text, has_large}
use Rattle.table_blocks.specs.declared.Standing.{Standing}
use Rattle.table_blocks.specs.declared.Standing.TheVariants.{Going, Refused}
use Rattle.table_blocks.specs.declared.RefusedLine.{RefusedLine}
use Rattle.table_blocks.specs.declared.Portion.{Portion}
use Rattle.table_blocks.specs.declared.End.{End}
use Rattle.table_blocks.specs.Table.{Table, no_rows, over, refused_by, refusal_text}
use Rattle.table_blocks.specs.Steps.{Tabled, Ends, opened}

-- a portion: the caller's buffer before it and after it, and the result of the call
pub record Part : Type 0 where
  pub before : List ℕ
  pub after : List ℕ
  pub answer : Portion

-- a block that was read, and its portions
pub record Block : Type 0 where
  pub bytes : List ℕ
  pub parts : List Part

-- the bytes of all blocks
abbrev pub bytes_of : List Block → List ℕ
bytes_of [] = []
bytes_of (b ∷ bs) = b.bytes ++ bytes_of bs

-- the texts written for a block, and for all blocks
abbrev pub parts_text : List Part → List ℕ
parts_text [] = []
parts_text (p ∷ ps) = take p.answer.written p.after ++ parts_text ps

abbrev pub blocks_text : List Block → List ℕ
blocks_text [] = []
blocks_text (b ∷ bs) = parts_text b.parts ++ blocks_text bs

-- the stage after the portions of a block, and after all blocks
abbrev pub standing_after : Standing → List Part → Standing
standing_after s [] = s
standing_after s (p ∷ ps) = standing_after p.answer.standing ps

abbrev pub standing_behind : Standing → List Block → Standing
standing_behind s [] = s
standing_behind s (b ∷ bs) = standing_behind (standing_after s b.parts) bs

-- portions as `portion` promises them, each from where the last one ended, until the block is used up
abbrev pub Portions : List ℕ → ℕ → Standing → List Part → Type 0
Portions block at s [] = length block ≤ at
Portions block at s (p ∷ ps) = Tabled block at s p.before p.after p.answer × Portions block p.answer.at p.answer.standing ps

-- the first portion of each block starts at its first byte, and at the stage after the block before
abbrev pub Blocks : Standing → List Block → Type 0
Blocks s [] = Unit {0}
Blocks s (b ∷ bs) = Portions b.bytes 0 s b.parts × Blocks (standing_after s b.parts) bs

-- reading stops at the end of the text, or after a refused line
abbrev pub MayStop : Standing → List ℕ → Type 0
MayStop (Going place scan line) left = left ≡ []
MayStop (Refused r) left = Unit {0}

-- a whole run of the program on a text, cut into blocks in any way: the heading, the blocks, the bytes that were not read, the end and the refusal
pub record Printing (text : List ℕ) : Type 0 where
  pub blank : List ℕ
  pub first_row : List ℕ
  pub behind_it : ℕ
  pub headed : Wrote blank 0 heading first_row behind_it
  pub blocks : List Block
  pub left : List ℕ
  pub read : text ≡ bytes_of blocks ++ left
  pub portions : Blocks opened blocks
  pub stops : MayStop (standing_behind opened blocks) left
  pub before : List ℕ
  pub after : List ℕ
  pub end : End
  pub ends : Ends (standing_behind opened blocks) before after end
  pub room : List ℕ
  pub refusal : List ℕ
  pub next : ℕ
  pub refused : Wrote room 0 (refusal_text end.refused) refusal next

-- what goes to standard output: the heading, the portions, the end; and to standard error
abbrev pub output : {text : List ℕ} → Printing text → List ℕ
output p = take p.behind_it p.first_row ++ (blocks_text p.blocks ++ take p.end.next p.after)

abbrev pub errors : {text : List ℕ} → Printing text → List ℕ
errors p = take p.next p.refusal

-- a row for each state
abbrev pub rows_text : List Row → List ℕ
rows_text [] = []
rows_text (r ∷ rs) = row_text r ++ rows_text rs

-- "a magnitude of 10^12 or more": the line of the first state that has one, from line n on; 0 if none has
abbrev pub found_large : Option Row → Bool
found_large None = false
found_large (Some r) = has_large r

unfoldable pub large_from : ℕ → List Line → ℕ
large_from n [] = 0
large_from n (l ∷ ls) = if found_large (row_of l) then n otherwise large_from (n + 1) ls

-- of two line numbers, 0 for none: the first comes before the second
abbrev pub comes_first : ℕ → ℕ → Bool
comes_first g f = if g =? 0 then false otherwise if f =? 0 then true otherwise g <? f

-- "the first such line decides": f is the line that R-1 refuses, g the first with a large magnitude; on one line 13 comes first
abbrev pub decided : ℕ → ℕ → Table
decided f g = if comes_first g f then refused_by Large g otherwise if f =? 0 then over otherwise refused_by Listing f

abbrev pub refusal_of : Table → Table
refusal_of t = no_rows t.refused

-- the line of a refusal; 0 if there is none
abbrev pub line_in : Option RefusedLine → ℕ
line_in None = 0
line_in (Some r) = r.line

-- the lines from line n on that come before a line; all of them if that is 0
unfoldable pub lines_before : ℕ → ℕ → List Line → List Line
lines_before line n [] = []
lines_before line n (l ∷ ls) = if n =? line then [] otherwise l ∷ lines_before line (n + 1) ls

-- the refusal of a text: that of R-1 or that of a large magnitude; the first line decides
abbrev pub first_large : List ℕ → ℕ
first_large text = large_from 1 (kinds_of text)

abbrev pub refusal_in : List ℕ → Table
refusal_in text = decided (form_refusal text) (first_large text)
