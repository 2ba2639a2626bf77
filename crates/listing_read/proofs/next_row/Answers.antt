-- `listing_read::next_row` meets its contract: the search from its start gives the same as the search from i. Assumes nothing.
use Prim.Native.Nat.{ℕ, ◌+◌, ◌-◌, ◌<◌, ◌≤◌}
use native.Mathlib.Omega.{arith}
use lib.ListN.{length}
use Rattle.listing_read.proofs.Finding.{search_on, search_ends}
use Rattle.listing_read.proofs.Skipping.{search_skips, feed_least}
use Rattle.listing_read.proofs.next_row.Goals as goal

-- from a place after i on
nearer : (n i to : ℕ) → i < n → i + 1 ≤ to → n - to < n - i
nearer n i to h l = omega arith

pub returns-in-Some : goal.returns-in-Some
returns-in-Some c = let x = c.args in
    rw (
      search_skips x.block.now x.at x.scan,
      ← c.to_feed-first.ensures,
      c.loop-i.invariant,
      search_on _ _ _ c.loop-i-test.true,
      ← c.row_here-found.ensures,
      ← c.after_byte-behind.ensures,
      c.in-Some.is,
    )

pub loop-i-smaller : goal.loop-i-smaller
loop-i-smaller c = let block = c.args.block.now in
    rw c.to_feed-next.ensures (nearer (length block) c.loop-i.i _ c.loop-i-test.true (feed_least block (c.loop-i.i + 1) _))

pub loop-i-preserved : goal.loop-i-preserved
loop-i-preserved c = let block = c.args.block.now in
    rw (
      c.to_feed-next.ensures,
      ← search_skips block (c.loop-i.i + 1) c.after_byte-behind.result,
      c.loop-i.invariant,
      search_on _ _ _ c.loop-i-test.true,
      ← c.row_here-found.ensures,
      ← c.after_byte-behind.ensures,
      c.in_default.is,
    )

pub returns : goal.returns
returns c = let x = c.args in
    rw (
      search_skips x.block.now x.at x.scan,
      ← c.to_feed-first.ensures,
      c.loop-i.invariant,
      search_ends _ _ _ c.loop-i-test.false,
    )
