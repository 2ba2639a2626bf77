-- `root::inner::square_roots` meets its contract: each root is of its own number. Assumes nothing.
use Rattle.std.proofs.Common.{◌≡◌, ℕ, ◌<◌, length, get_or}
use lib.Ieee.{nan}
use Rattle.root_split.specs.declared.Parts.{Parts}
use Rattle.root_split.specs.Parts.{Opened}
use Rattle.root.specs.Root.{root_of}
use Rattle.root.proofs.inner.square_roots.Given as goal

abbrev pub invariant-loop-k : goal.invariant-loop-k
invariant-loop-k g l = record {
  places : length l.parts ≡ g.row.N;
  numbers : length l.digits ≡ g.row.N;
  opened : (j : ℕ) → j < l.k → (p : Parts) (m : ℕ) → Opened (get_or l.x-items j nan) (get_or l.parts j p).m (get_or l.parts j p).half × (get_or l.digits j m ≡ (get_or l.parts j p).m);
}

abbrev pub invariant-loop-k-2 : goal.invariant-loop-k-2
invariant-loop-k-2 g l = record {
  size : length l.root-items ≡ g.row.N;
  roots : (j : ℕ) → j < l.k → get_or l.root-items j nan ≡ root_of (get_or l.xs j nan);
}
