-- `listing_read::feed::byte_by_byte` meets its contract: there is no line feed between its start and i. Assumes nothing.
use mathlib.Core.Path.{◌≡◌, sym, ◌∙◌}
use native.Mathlib.Omega.{arith}
use Rattle.listing_read.proofs.Whole.{feed_on, feed_here, feed_over}
use Rattle.listing_read.proofs.feed.byte_by_byte.Goals as goal

pub returns-then-b-eq10 : goal.returns-then-b-eq10
returns-then-b-eq10 c = sym (c.loop-i.invariant ∙ feed_here c.args.block.now c.loop-i.i c.loop-i.s (omega arith) c.if-b-eq10.true)

pub loop-i-preserved : goal.loop-i-preserved
loop-i-preserved c = rw c.take_byte-s.ensures
    (c.loop-i.invariant
    ∙ feed_on c.args.block.now c.loop-i.i c.loop-i.s (omega arith) c.if-b-eq10.false)

pub returns : goal.returns
returns c = let at_end : c.loop-i.i ≡ c.max-end.result = omega arith in
    sym (rw at_end at c.loop-i.invariant ∙ feed_over c.args.block.now c.max-end.result c.loop-i.s (omega (arith, c.max-end.ensures)))
