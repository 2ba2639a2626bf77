-- A line up to its line feed, byte by byte.
use Rattle.std.specs.Prelude.{ℕ, ◌+◌, ◌-◌, List, [], ◌∷◌, length, drop}
use Rattle.base.specs.Choice.{if◌then◌otherwise◌, ◌<?◌, ◌=?◌}
use Rattle.listing_lines.specs.declared.WholeLine.{WholeLine}
use Rattle.listing_scan.specs.declared.Row.{Row}
use Rattle.listing_scan.specs.declared.Scan.{Scan}
use Rattle.listing_read.specs.declared.Reached.{Reached}
use Rattle.listing_read.specs.declared.Judge.{Judge}
use Rattle.listing_read.specs.declared.Judged.{Judged}
use Rattle.listing_scan.specs.Bytes.{on_byte}
use Rattle.listing_read.specs.Bytes.{line_ended}

-- the scan at the first line feed of some bytes, which begin at `at`, and its place; or after all of them
unfoldable pub up_to_feed : List ℕ → ℕ → Scan → Reached
up_to_feed [] at s = record { scan = s; at = at }
up_to_feed (b ∷ bytes) at s = if b =? 10 then record { scan = s; at = at } otherwise up_to_feed bytes (at + 1) (on_byte s b)

abbrev pub to_feed : List ℕ → ℕ → Scan → Reached
to_feed block at s = up_to_feed (drop at block) at s

-- the state of a line that was read at once
abbrev pub row_in : WholeLine → Row
row_in l = record { moment = l.moment; x = l.x; y = l.y; z = l.z; vx = l.vx; vy = l.vy; vz = l.vz }

-- a reading advanced to a place inside its line
abbrev pub read_on : Judge → Reached → ℕ → Judge
read_on j r at =
    record { place = j.place; scan = r.scan; line = j.line; rows = j.rows; read = j.read + (r.at - at); from = j.from; last = j.last }

-- a reading advanced past the next line feed of a block, or to its end
abbrev pub judged_to : List ℕ → ℕ → Judge → Reached → Judged
judged_to block at j r =
    if r.at <? length block
    then record { judge = line_ended (read_on j r at) ((read_on j r at).read + 1); at = r.at + 1 }
    otherwise record { judge = read_on j r at; at = r.at }

unfoldable pub judged_line : List ℕ → ℕ → Judge → Judged
judged_line block at j = judged_to block at j (to_feed block at j.scan)
