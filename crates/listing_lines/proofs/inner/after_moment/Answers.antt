-- `listing_lines::inner::after_moment` meets its contract. Assumes nothing.
use Prim.Native.Nat.{ℕ, ◌+◌, ◌-◌, ◌<◌, ◌≤◌}
use native.Mathlib.Omega.{arith}
use borrow.Author.Tests.{lt-ltb, le-ltb, eq-eqb, ne_eqb}
use Rattle.listing_lines.specs.Whole.{after_moment}
use Rattle.listing_lines.proofs.inner.after_moment.Goals as goal

short : (n end : ℕ) → n < 103 → n ≤ end + 102
short n end h = omega arith

behind : (n end : ℕ) → 103 ≤ n → n - 103 < end → n ≤ end + 102
behind n end l h = omega arith

room : (n end : ℕ) → 103 ≤ n → end ≤ n - 103 → end + 102 < n
room n end l h = omega arith

pub returns-then-block-lt103 : goal.returns-then-block-lt103
unfolding after_moment
returns-then-block-lt103 c = rw (le-ltb _ _ (short _ c.args.m.end c.if-block-lt103.true))

pub returns-then-block-m : goal.returns-then-block-m
unfolding after_moment
returns-then-block-m c = rw (le-ltb _ _ (behind _ _ c.if-block-lt103.false c.if-block-m.true))

pub returns-then-block-m-eq10 : goal.returns-then-block-m-eq10
unfolding after_moment
returns-then-block-m-eq10 c = let left = c.before in
    rw (c.six.ensures, lt-ltb _ _ (room _ _ left.if-block-lt103.false left.if-block-m.false), eq-eqb _ 10 c.if-block-m-eq10.true)

pub returns : goal.returns
unfolding after_moment
returns c = let left = c.before in
    rw (lt-ltb _ _ (room _ _ left.if-block-lt103.false left.if-block-m.false), ne_eqb _ 10 c.if-block-m-eq10.false)
