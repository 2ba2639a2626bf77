-- The report as the program prints it: the blocks of both listings, one after the other, make up the report on the whole texts.
-- Assumes nothing.
use Prim.Native.Nat.{ℕ, ◌+◌, ◌<◌, ◌≤◌}
use mathlib.Core.Bool.{Bool, true, false}
use mathlib.Core.List.{List, [], ◌++◌}
use mathlib.Core.Path.{◌≡◌, refl, sym, ap, ap₂}
use native.Mathlib.Omega.{arith}
use borrow.Author.Tests.{lt-ltb}
use lib.Dec.{ltb}
use lib.ListN.{length, drop, drop_of_length-le}
use Rattle.std.specs.Prelude.{Option, Some, None}
use Rattle.base.specs.Choice.{if◌then◌otherwise◌}
use Rattle.listing_scan.specs.declared.Row.{Row}
use Rattle.listing_scan.specs.declared.Scan.{Scan}
use Rattle.listing_scan.specs.declared.Scan.TheVariants.{Start, Letters, Digits, Moment, Component, Behind, Bad}
use Rattle.listing_read.specs.Form.{lines_of, row_of, found_rows, rows_of, rows_in, form_refusal}
use Rattle.listing_scan.specs.Bytes.{told}
use Rattle.listing_read.specs.Bytes.{kinds_from}
use Rattle.listing_scan.specs.Reading.{kind_of}
use Rattle.listing_read.proofs.Lines.{kinds_start}
use Rattle.compare_report.specs.declared.Part.TheVariants.{Header, States, Outcome, End}
use Rattle.compare_report.specs.Turns.{takes, side_of}
use Rattle.compare_report.specs.Report.{parted, text_of, states_text, part_text, first_refusal, refusal_text, report}
use Rattle.compare_blocks.specs.declared.Reading.{Reading}
use Rattle.compare_blocks.specs.Sides.{coming, Rests, Shut, waiting, waits_for, halt_of, opened, onward}
use Rattle.compare_blocks.proofs.Readings.{ends}

-- before the first block all states of the text are to come
pub opened_all : (text : List ℕ) → coming opened [] text ≡ rows_in text
opened_all text = ap rows_of (kinds_start text)

-- a block that is used up, and the next
module _ (r : Reading) (block : List ℕ) (none : r.found ≡ None) (used : length block ≤ r.at) where
  pub next_block_lem : (next rest : List ℕ) → 0 < length next → coming r block (next ++ rest) ≡ coming (onward r (length next)) next rest
  unfolding onward
  next_block_lem next rest h = rw (lt-ltb 0 (length next) h, none, drop_of_length-le block used)

  last_row : (s : Scan) → rows_of (kinds_from s []) ≡ found_rows (row_of (told s [])) ++ rows_of (kinds_from Start [])
  unfolding kinds_from lines_of rows_of told kind_of
  last_row Start = refl
  last_row (Letters w i) = refl
  last_row (Digits w more) = refl
  last_row (Moment t) = refl
  last_row (Component more left bits row) = refl
  last_row (Behind more row) = refl
  last_row Bad = refl

  pub text_over : coming r block [] ≡ coming (onward r 0) [] []
  unfolding onward
  text_over = rw (none, drop_of_length-le block used) (last_row r.scan)

-- when the report is over, no state is to come

abbrev side_by : Bool → Bool → Bool × Bool
side_by x y = ((if x then takes true false otherwise if y then takes false true otherwise takes true true).first, (if x then takes true false otherwise if y then takes false true otherwise takes true true).second)

one_next : (x y : Bool) → (side_by x y).0 ≡ false → (side_by x y).1 ≡ false → ⊥
one_next true y e f = let z : ◌≡◌ {A = ℕ} 0 1 = cc in absurd (omega arith)
one_next false true e f = let z : ◌≡◌ {A = ℕ} 0 1 = cc in absurd (omega arith)
one_next false false e f = let z : ◌≡◌ {A = ℕ} 0 1 = cc in absurd (omega arith)

neither : (f g : Option Row) → (side_of f g).first ≡ false → (side_of f g).second ≡ false → (f ≡ None) × (g ≡ None)
neither None None e q = (refl, refl)
neither (Some r) None e q = let z : ◌≡◌ {A = ℕ} 0 1 = cc in absurd (omega arith)
neither None (Some s) e q = let z : ◌≡◌ {A = ℕ} 0 1 = cc in absurd (omega arith)
neither (Some r) (Some s) e q = absurd (one_next (ltb r.moment s.moment) (ltb s.moment r.moment) e q)

pub record Ended (p q x y : Bool) : Type 0 where
  pub first_known : p ≡ false
  pub second_known : q ≡ false
  pub no_first : x ≡ false
  pub no_second : y ≡ false

is_over : (p q x y : Bool)
    → (if p then waits_for true false false otherwise if q then waits_for false true false
    otherwise if x then waits_for false false false otherwise if y then waits_for false false false otherwise waits_for false false true).over ≡ true
    → Ended p q x y
is_over true q x y e = let z : ◌≡◌ {A = ℕ} 0 1 = cc in absurd (omega arith)
is_over false true x y e = let z : ◌≡◌ {A = ℕ} 0 1 = cc in absurd (omega arith)
is_over false false true y e = let z : ◌≡◌ {A = ℕ} 0 1 = cc in absurd (omega arith)
is_over false false false true e = let z : ◌≡◌ {A = ℕ} 0 1 = cc in absurd (omega arith)
is_over false false false false e = record { first_known = refl; second_known = refl; no_first = refl; no_second = refl }

pub nothing_left : (a b ra rb : List ℕ) (r s : Reading) → Shut (length a) r → Shut (length b) s → Rests r ra → Rests s rb → (halt_of r s).over ≡ true
    → text_of (parted (coming r a ra) (coming s b rb)) ≡ []
unfolding text_of parted
nothing_left a b ra rb r s h g p q e =
    let o = is_over (waiting r) (waiting s) (side_of r.found s.found).first (side_of r.found s.found).second e in
    let n = neither r.found s.found o.no_first o.no_second in
    rw (ends r a ra o.first_known h p n.0, ends s b rb o.second_known g q n.1, n.0, n.1)

-- the parts of the report of two texts that are both of the form
pub parts : (a b : List ℕ) → form_refusal a ≡ 0 → form_refusal b ≡ 0
    → report a b ≡ part_text Header a b ++ (part_text States a b ++ (part_text Outcome a b ++ part_text End a b))
unfolding report first_refusal
parts a b h g = let e : refusal_text (form_refusal a) (form_refusal b) ≡ [] = rw (h, g) none_refused in rw e
  where
    none_refused : refusal_text 0 0 ≡ []
    none_refused = refl

-- the lines of the states are those on all states of both texts
pub all_states : (a b : List ℕ) → part_text States a b ≡ text_of (parted (coming opened [] a) (coming opened [] b))
unfolding states_text
all_states a b = sym (ap₂ (λ (x y : List Row). text_of (parted x y)) (opened_all a) (opened_all b))
