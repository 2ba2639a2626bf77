-- "Header and outcome lines .. are compared whole" (document 02, R-1), one block of each at a time: what the next block changes, and what
-- is printed.
use Rattle.std.specs.Prelude.{ℕ, ◌+◌, ◌≤◌, Bool, true, false, List, [], ◌∷◌, ◌++◌, ◌≡◌, length}
use Rattle.base.specs.Choice.{if◌then◌otherwise◌, ◌<?◌, ◌=?◌}
use Rattle.text_write.specs.Written.{Wrote}
use Rattle.listing_words.specs.Words.{line_feed, header_word, outcome_word, bar, dash}
use Rattle.listing_read.specs.declared.Verdict.{Verdict}
use Rattle.compare_report.specs.declared.Part.{Part}
use Rattle.compare_report.specs.declared.Part.TheVariants as part
use Rattle.compare_report.specs.Report.{until_feed}
use Rattle.compare_lines.specs.declared.Line.{Line}
use Rattle.compare_lines.specs.declared.Stage.{Stage}
use Rattle.compare_lines.specs.declared.Stage.TheVariants.{Comparing, First, Second, Over}
use Rattle.compare_lines.specs.declared.Likeness.{Likeness}
use Rattle.compare_lines.specs.declared.Likeness.TheVariants.{Same, Differ, SoFar}
use Rattle.compare_lines.specs.declared.Turn.{Turn}

-- the line that a part is about: the first line if the listing has a state, or the last line
abbrev pub line_of : Part → Verdict → Line
line_of part.Header v = record { from = 0; there = 0 <? v.rows }
line_of part.States v = record { from = v.outcome; there = true }
line_of part.Outcome v = record { from = v.outcome; there = true }
line_of part.End v = record { from = v.outcome; there = true }
line_of part.Over v = record { from = v.outcome; there = true }

-- a header that is not there is printed as the line -
abbrev pub absent_from : ℕ → List ℕ
absent_from from = if 0 <? from then [] otherwise dash

-- the word before the two lines
abbrev pub word_of : Part → List ℕ
word_of part.Header = header_word
word_of part.States = outcome_word
word_of part.Outcome = outcome_word
word_of part.End = outcome_word
word_of part.Over = outcome_word

-- which blocks a stage wants, and from which byte of the lines on
abbrev pub wants_first : Stage → Bool
wants_first (Comparing d) = true
wants_first (First d) = true
wants_first (Second d) = false
wants_first Over = false

abbrev pub wants_second : Stage → Bool
wants_second (Comparing d) = true
wants_second (First d) = false
wants_second (Second d) = true
wants_second Over = false

abbrev pub place_of : Stage → ℕ
place_of (Comparing d) = d
place_of (First d) = d
place_of (Second d) = d
place_of Over = 0

-- a line ends in a block of it: at a line feed, or at the end of the text, where the block is empty
abbrev pub line_ends : List ℕ → Bool
line_ends block = if length (until_feed block) <? length block then true otherwise length block =? 0

abbrev pub both_end : List ℕ → List ℕ → Bool
both_end a b = if length (until_feed a) =? 0 then length (until_feed b) =? 0 otherwise false

-- i bytes are the same in both blocks, and one of the blocks has no more
abbrev pub used_up : ℕ → List ℕ → List ℕ → Likeness
used_up i a b = if 0 <? i then SoFar i otherwise if both_end a b then Same otherwise Differ

-- the same from there on
unfoldable pub likeness : ℕ → List ℕ → List ℕ → Likeness
likeness i [] b = used_up i [] b
likeness i (x ∷ a) [] = used_up i (x ∷ a) []
likeness i (x ∷ a) (y ∷ b) =
    if x =? 10 then (if y =? 10 then Same otherwise Differ) otherwise
    if x =? y then likeness (i + 1) a b otherwise Differ

-- the bytes of a line in a block, and a text after the line
unfoldable pub line_text : List ℕ → List ℕ → List ℕ
line_text block behind = until_feed block ++ (if line_ends block then behind otherwise [])

-- ---- a turn

abbrev pub after_likeness : ℕ → Likeness → Stage
after_likeness d Same = Over
after_likeness d Differ = First 0
after_likeness d (SoFar k) = Comparing (d + k)

abbrev pub after_first : ℕ → List ℕ → Stage
after_first d a = if line_ends a then Second 0 otherwise First (d + length a)

abbrev pub after_second : ℕ → List ℕ → Stage
after_second d b = if line_ends b then Over otherwise Second (d + length b)

abbrev pub stage_after : Stage → List ℕ → List ℕ → Stage
stage_after (Comparing d) a b = after_likeness d (likeness 0 a b)
stage_after (First d) a b = after_first d a
stage_after (Second d) a b = after_second d b
stage_after Over a b = Over

-- WORD FIRST-LINE | SECOND-LINE
abbrev pub likeness_text : Part → Likeness → List ℕ
likeness_text p Same = []
likeness_text p Differ = word_of p
likeness_text p (SoFar k) = []

abbrev pub turn_text : Part → Stage → List ℕ → List ℕ → List ℕ
turn_text p (Comparing d) a b = likeness_text p (likeness 0 a b)
turn_text p (First d) a b = line_text a bar
turn_text p (Second d) a b = line_text b line_feed
turn_text p Over a b = []

-- room for a block and the words around it; the count cannot overflow
abbrev pub Room : Stage → ℕ → ℕ → ℕ → Type 0
Room s a b out = (place_of s + a + b ≤ 0xffff_ffff_ffff_ffff) × (a + b + 8 ≤ out)

pub record Turned (p : Part) (s : Stage) (a b before after : List ℕ) (r : Turn) : Type 0 where
  pub stage : r.stage ≡ stage_after s a b
  pub wrote : Wrote before 0 (turn_text p s a b) after r.written
