-- How the states of two listings are compared as they are read: the next state of each side, if there is one.
use Rattle.std.specs.Prelude.{ℕ, ◌+◌, ◌≤◌, Bool, true, false, List, [], ◌∷◌, ◌++◌, ◌≡◌, Option, Some, None}
use Rattle.base.specs.Choice.{if◌then◌otherwise◌, ◌<?◌}
use Rattle.text_write.specs.Written.{Wrote}
use Rattle.listing_scan.specs.declared.Row.{Row}
use Rattle.listing_read.specs.Form.{found_rows}
use Rattle.compare_report.specs.declared.Side.{Side}
use Rattle.compare_report.specs.Report.{Difference, only, at_one, text_of}

-- a text is written that is not longer than some limit
pub record Put (before : List ℕ) (at : ℕ) (text after : List ℕ) (r room : ℕ) : Type 0 where
  pub wrote : Wrote before at text after r
  pub short : r ≤ at + room

abbrev pub only_text : ℕ → ℕ → List ℕ
only_text listing moment = text_of (only listing moment ∷ [])

-- which listing has the next state in moment order: the first, the second, both, or neither if none is left
abbrev pub takes : Bool → Bool → Side
takes first second = record { first = first; second = second }

abbrev pub side_of : Option Row → Option Row → Side
side_of None None = takes false false
side_of (Some r) None = takes true false
side_of None (Some s) = takes false true
side_of (Some r) (Some s) =
    if r.moment <? s.moment then takes true false otherwise
    if s.moment <? r.moment then takes false true otherwise takes true true

-- what the report says about it
abbrev pub differences_at : Option Row → Option Row → List Difference
differences_at None None = []
differences_at (Some r) None = only 1 r.moment ∷ []
differences_at None (Some s) = only 2 s.moment ∷ []
differences_at (Some r) (Some s) =
    if r.moment <? s.moment then only 1 r.moment ∷ [] otherwise
    if s.moment <? r.moment then only 2 s.moment ∷ [] otherwise at_one r s

-- the rows of a listing after its state was taken or not
abbrev pub left : Bool → Option Row → List Row → List Row
left true f rest = rest
left false f rest = found_rows f ++ rest

-- a listing without a next state has none after it either
abbrev pub Ended : Option Row → List Row → Type 0
Ended f rest = f ≡ None → rest ≡ []
