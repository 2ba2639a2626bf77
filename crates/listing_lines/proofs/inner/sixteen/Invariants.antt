-- `listing_lines::inner::sixteen` meets its contract: the digits so far spell the bits. Assumes nothing.
use Prim.Native.Nat.{◌+◌, ◌-◌}
use mathlib.Core.Path.{◌≡◌}
use Rattle.listing_lines.specs.Whole.{spelled_from}
use Rattle.listing_lines.proofs.inner.sixteen.Given as goal

abbrev pub invariant-loop-b : goal.invariant-loop-b
invariant-loop-b l = spelled_from l.block 16 l.at 0 ≡ spelled_from l.block (16 - l.b-index) (l.at + l.b-index) l.bits
