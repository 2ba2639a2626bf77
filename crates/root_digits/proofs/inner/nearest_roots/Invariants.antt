-- `root_digits::inner::nearest_roots` meets its contract: each lane is that of its number throughout. Assumes nothing.
use Rattle.std.proofs.Common.{◌≡◌, ℕ, ◌/◌, ◌^◌, ◌<◌, ◌≤◌, length, get_or}
use Rattle.root_digits.specs.Digits.{nearest_of}
use Rattle.root_digits.proofs.Turns.{weight, AtLane}
use Rattle.root_digits.proofs.inner.nearest_roots.Given as goal

abbrev pub invariant-loop-k : goal.invariant-loop-k
invariant-loop-k g l = record {
  size : length l.s-items ≡ g.row.N;
  lanes : (k : ℕ) → k < l.k → AtLane l.digits (2 ^ 52) l.s-items k;
}

abbrev pub invariant-loop-s : goal.invariant-loop-s
invariant-loop-s g l = record {
  size : length l.s-items ≡ g.row.N;
  turned : (k : ℕ) → k < l.s-index → AtLane l.digits (l.g / 4) l.s-items k;
  rest : (k : ℕ) → l.s-index ≤ k → k < g.row.N → AtLane l.digits l.g l.s-items k;
}

abbrev pub invariant-loop : goal.invariant-loop
invariant-loop g l = record {
  weight : l.g ≡ weight l.counter;
  size : length l.lanes ≡ g.row.N;
  lanes : (k : ℕ) → k < g.row.N → AtLane l.digits l.g l.lanes k;
}

abbrev pub invariant-loop-k-2 : goal.invariant-loop-k-2
invariant-loop-k-2 g l = record {
  size : length l.root-items ≡ g.row.N;
  roots : (k : ℕ) → k < l.k → get_or l.root-items k 0 ≡ nearest_of (get_or l.fn.digits k 0);
}
