-- `root_known::inner::rooted` meets its contract: each number has its own root. Assumes nothing.
use Rattle.std.proofs.Common.{◌≡◌, ℕ, ◌<◌, length, get_or}
use lib.Ieee.{nan}
use Rattle.root_known.specs.Known.{rooted_of}
use Rattle.root_known.proofs.inner.rooted.Given as goal

abbrev pub invariant-loop-k : goal.invariant-loop-k
invariant-loop-k g l = record {
  size : length l.r-items ≡ g.row.N;
  known : (j : ℕ) → j < l.k → get_or l.r-items j (rooted_of nan) ≡ rooted_of (get_or l.ns j nan);
}
