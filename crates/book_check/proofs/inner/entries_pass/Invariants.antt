-- `book_check::inner::entries_pass` meets its contract. The invariant: the entries before i are checked, and block i has to begin at `place`. Assumes nothing.
use Prim.Native.Nat.{◌≤◌}
use mathlib.Core.Path.{◌≡◌}
use lib.ListN.{length}
use Rattle.book_check.specs.Passes.{block_place}
use Rattle.book_check.proofs.Checked.{Checked}
use Rattle.book_check.proofs.inner.entries_pass.Given as goal

abbrev pub invariant-loop-i : goal.invariant-loop-i
invariant-loop-i l = (l.place ≡ block_place l.book l.i) × (l.place ≤ length l.book) × Checked l.book l.i
