-- Two listings read side by side: which states of each are still to come, what the report waits for, and what a portion of it is.
use Rattle.std.specs.Prelude.{ℕ, ◌+◌, ◌≤◌, Bool, true, false, List, [], ◌++◌, ◌≡◌, length, take, drop, Option, Some, None}
use Rattle.base.specs.Choice.{if◌then◌otherwise◌, ◌<?◌}
use Rattle.listing_scan.specs.declared.Row.{Row}
use Rattle.listing_scan.specs.declared.Scan.TheVariants.{Start}
use Rattle.listing_read.specs.Form.{row_of, found_rows, rows_of}
use Rattle.listing_scan.specs.Bytes.{told}
use Rattle.listing_read.specs.Bytes.{kinds_from}
use Rattle.compare_report.specs.declared.Side.{Side}
use Rattle.compare_report.specs.Report.{parted, text_of}
use Rattle.compare_report.specs.Turns.{side_of}
use Rattle.compare_blocks.specs.declared.Reading.{Reading}
use Rattle.compare_blocks.specs.declared.Halt.{Halt}
use Rattle.compare_blocks.specs.declared.Portion.{Portion}

-- the states to come: the next one, those in the rest of the block, and those in the rest of the text after it
abbrev pub coming : Reading → List ℕ → List ℕ → List Row
coming r block rest = found_rows r.found ++ rows_of (kinds_from r.scan (drop r.at block ++ rest))

-- a text that is over has nothing after its block
abbrev pub Rests : Reading → List ℕ → Type 0
Rests r rest = r.over ≡ true → rest ≡ []

-- and nothing left in the block, of n bytes
pub record Shut (n : ℕ) (r : Reading) : Type 0 where
  pub start : r.over ≡ true → r.scan ≡ Start
  pub used : r.over ≡ true → n ≤ r.at

abbrev pub is_none : Option Row → Bool
is_none None = true
is_none (Some r) = false

-- whether more must be read before the next state is known
abbrev pub waiting : Reading → Bool
waiting r = if r.over then false otherwise is_none r.found

-- s is r after looking for the next state, if it was not known
pub record Fills (block : List ℕ) (r s : Reading) : Type 0 where
  pub rows : (rest : List ℕ) → coming r block rest ≡ coming s block rest
  pub over : s.over ≡ r.over
  pub shut : Shut (length block) r → Shut (length block) s
  pub used : waiting s ≡ true → length block ≤ s.at

abbrev pub waits_for : Bool → Bool → Bool → Halt
waits_for first second over = record { first = first; second = second; over = over }

abbrev pub stops : Halt → Bool
stops h =
    if h.first then true otherwise
    if h.second then true otherwise h.over

-- if both next states are known the report continues; if neither listing has one it is over
abbrev pub halt_at : Side → Halt
halt_at side =
    if side.first then waits_for false false false otherwise
    if side.second then waits_for false false false otherwise waits_for false false true

abbrev pub halt_of : Reading → Reading → Halt
halt_of r s =
    if waiting r then waits_for true false false otherwise
    if waiting s then waits_for false true false otherwise halt_at (side_of r.found s.found)

-- the next state is done, if it was reported
abbrev pub leaving : Bool → Reading → Reading
leaving true r = record { found = None; scan = r.scan; at = r.at; over = r.over }
leaving false r = r

abbrev pub opened : Reading
opened = record { found = None; scan = Start; at = 0; over = false }

-- a reading that waits, before its next block, of n bytes. n is 0 at the end of the text, where the last line may lack its line feed.
unfoldable pub onward : Reading → ℕ → Reading
onward r n =
    if 0 <? n
    then record { found = None; scan = r.scan; at = 0; over = false }
    otherwise record { found = row_of (told r.scan []); scan = Start; at = 0; over = true }

-- the next block, if it was wanted
abbrev pub going_on : Bool → Reading → ℕ → Reading
going_on true r n = onward r n
going_on false r n = r

abbrev pub portion_of : Reading → Reading → ℕ → Halt → Portion
portion_of first second written halt = record { first = first; second = second; written = written; halt = halt }

-- a portion of the report on the states to come of r and s. The text in out afterwards and the report on the states to come then make up
-- the report before it. The portion ends if there is no room for one moment more, or if the report waits for something else.
pub record Reported (a b : List ℕ) (r s : Reading) (before out : List ℕ) (p : Portion) : Type 0 where
  pub text : (ra rb : List ℕ) → Rests r ra → Rests s rb
      → text_of (parted (coming r a ra) (coming s b rb)) ≡ take p.written out ++ text_of (parted (coming p.first a ra) (coming p.second b rb))
  pub within : p.written ≤ length out
  pub rest : drop p.written out ≡ drop p.written before
  pub halts : p.halt ≡ (if length out <? p.written + 300 then waits_for false false false otherwise halt_of p.first p.second)
  pub first_over : p.first.over ≡ r.over
  pub second_over : p.second.over ≡ s.over
  pub first_shut : Shut (length a) p.first
  pub second_shut : Shut (length b) p.second
  pub first_used : p.halt.first ≡ true → length a ≤ p.first.at
  pub second_used : p.halt.second ≡ true → length b ≤ p.second.at
