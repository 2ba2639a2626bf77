-- Document 02, R-1: "Equal listings give one line, SAME and the number of states". Which two texts give that line, and no other two.
use Rattle.std.specs.Prelude.{ℕ, List, [], ◌∷◌, ◌++◌, map, ◌⊎◌, ◌↔◌, ◌≡◌, length}
use Rattle.listing_words.specs.Words.{line_feed}
use Rattle.listing_scan.specs.declared.Row.{Row}
use Rattle.listing_scan.specs.Line.{row_text}
use Rattle.listing_read.specs.Form.{lines_of, form_refusal, rows_in}
use Rattle.compare_report.specs.Report.{same_line, report}
use Rattle.compare_laws.specs.Runs.{Run, output}

-- ---- a listing's lines are those of its header, its states and its outcome. A listing without states is its outcome alone.

abbrev pub listing_lines : List ℕ → List Row → List ℕ → List (List ℕ)
listing_lines header [] outcome = outcome ∷ []
listing_lines header (r ∷ rs) outcome = header ∷ (map row_text (r ∷ rs) ++ (outcome ∷ []))

-- ---- equal listings

-- both texts are listings, they have the same lines, and n of these are lines of states
pub record EqualListings (a b : List ℕ) (n : ℕ) : Type 0 where
  pub first_passes : form_refusal a ≡ 0
  pub second_passes : form_refusal b ≡ 0
  pub lines : lines_of a ≡ lines_of b
  pub states : length (rows_in a) ≡ n

-- the report is the one line SAME n if and only if the texts are equal listings of n states
abbrev pub SameOnlyIf : List ℕ → List ℕ → ℕ → Type 0
SameOnlyIf a b n = (report a b ≡ same_line n) ↔ EqualListings a b n

-- the same of what a whole run prints
abbrev pub PrintsSameOnlyIf : {a b : List ℕ} → Run a b → ℕ → Type 0
PrintsSameOnlyIf {a} {b} run n = (output run ≡ same_line n) ↔ EqualListings a b n

-- the same bytes, but for the line feed behind the last line, which one of the two may lack
abbrev pub SameBytes : List ℕ → List ℕ → Type 0
SameBytes a b = (a ≡ b) ⊎ ((a ≡ b ++ line_feed) ⊎ (b ≡ a ++ line_feed))

-- of two listings: the same lines are the same bytes, but for that line feed
abbrev pub LinesAreBytes : List ℕ → List ℕ → Type 0
LinesAreBytes a b = (lines_of a ≡ lines_of b) ↔ SameBytes a b
