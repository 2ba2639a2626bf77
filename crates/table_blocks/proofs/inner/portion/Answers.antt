-- `table_blocks::inner::portion` meets its contract. Assumes nothing.
use Prim.Native.Nat.{ℕ, ◌+◌, ◌-◌, ◌<◌, ◌≤◌}
use mathlib.Core.Path.{◌∙◌}
use native.Mathlib.Omega.{arith}
use lib.ListN.{length}
use Rattle.table_blocks.proofs.Reading.{goes_on}
use Rattle.table_blocks.proofs.Lines.{ahead_least, made_ahead}
use Rattle.table_blocks.proofs.inner.portion.Goals as goal

-- from a place after i on
nearer : (n i to : ℕ) → i < n → i + 1 ≤ to → n - to < n - i
nearer n i to h l = omega arith

one-behind : (from i : ℕ) → from ≤ i → from < i + 1
one-behind from i h = omega arith

pub loop-i-smaller : goal.loop-i-smaller
loop-i-smaller c = let block = c.args.block.now in
    rw c.to_line_end-line.ensures (nearer (length block) c.loop-i.i _ c.loop-i-test.true (ahead_least block (c.loop-i.i + 1) _))

pub loop-i-preserved : goal.loop-i-preserved
loop-i-preserved c = let m = goes_on _ _ _ _ _ _ _ _ c.loop-i.invariant.1 _ _ c.loop-i-test.true c.take-step.ensures in
    (c.take-step.auto.out ∙ c.loop-i.invariant.0, rw c.to_line_end-line.ensures (made_ahead _ _ _ _ _ _ _ _ (one-behind _ _ c.loop-i.invariant.1.least) m))
