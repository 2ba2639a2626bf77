-- Definitions for the laws of the report.
use Rattle.std.specs.Prelude.{ℕ, ◌+◌, ◌≤◌, List, [], ◌∷◌, length, Option, Some, None}
use Rattle.base.specs.Choice.{if◌then◌otherwise◌, ◌=?◌}
use Rattle.listing_scan.specs.declared.Row.{Row}
use Rattle.listing_read.specs.declared.Verdict.{Verdict}
use Rattle.listing_read.specs.Form.{form_refusal, rows_in}
use Rattle.listing_read.specs.Bytes.{last_start}
use Rattle.compare_report.specs.Report.{Difference, only, differs}

-- the verdict on a text: the refused line, the number of its states, and where its last line starts
abbrev pub verdict_on : List ℕ → Verdict
verdict_on text = record { refusal = form_refusal text; rows = length (rows_in text); outcome = last_start 0 0 0 text }

-- the moments of states rise, from `low` on
abbrev pub Rising : ℕ → List Row → Type 0
Rising low [] = 0 ≤ low
Rising low (r ∷ rs) = (low ≤ r.moment) × Rising (r.moment + 1) rs

-- the state of a moment, if a listing has one
abbrev pub state_of : ℕ → List Row → Option Row
state_of t [] = None
state_of t (r ∷ rs) = if r.moment =? t then Some r otherwise state_of t rs

abbrev pub moment_of : Difference → ℕ
moment_of (only k t) = t
moment_of (differs t k n) = t

-- what the report says about a moment
abbrev pub reported_at : ℕ → List Difference → List Difference
reported_at t [] = []
reported_at t (d ∷ ds) = if moment_of d =? t then d ∷ reported_at t ds otherwise reported_at t ds

-- differences in moment order, from `low` on
abbrev pub InOrder : ℕ → List Difference → Type 0
InOrder low [] = 0 ≤ low
InOrder low (d ∷ ds) = (low ≤ moment_of d) × InOrder (moment_of d) ds
