-- The stage of reading a listing at the next line feed of its block.
use Rattle.std.specs.Prelude.{ℕ, List}
use Rattle.listing_read.specs.declared.Place.{Place}
use Rattle.listing_scan.specs.declared.Scan.{Scan}
use Rattle.listing_read.specs.Reached.{to_feed}
use Rattle.table_blocks.specs.declared.Standing.{Standing}
use Rattle.table_blocks.specs.declared.Standing.TheVariants.{Going, Refused}
use Rattle.table_blocks.specs.declared.Ahead.{Ahead}

abbrev pub line_ahead : List ℕ → ℕ → Place → Scan → ℕ → Ahead
line_ahead block at place scan line =
    record { standing = Going place (to_feed block at scan).scan line; at = (to_feed block at scan).at }

unfoldable pub ahead_of : List ℕ → ℕ → Standing → Ahead
ahead_of block at (Going place scan line) = line_ahead block at place scan line
ahead_of block at (Refused r) = record { standing = Refused r; at = at }
