-- Each block has a byte more of the file.
use Rattle.std.specs.Prelude.{◌≡◌, ◌-◌, length}
use Rattle.listing_read.specs.Bytes.{Counted}
use Rattle.compare.proofs.files.judge.Given as goal

abbrev pub invariant-loop-j : goal.invariant-loop-j
invariant-loop-j l = (length l.block ≡ 65_536) × Counted l.j

abbrev pub decreases-loop-j : goal.decreases-loop-j
decreases-loop-j l = 0x4000_0000_0000_0001 - l.j.read
