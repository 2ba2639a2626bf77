-- `listing_read::inner::judge_block` meets its contract: at each turn the first i bytes are read. Assumes nothing.
use native.Mathlib.Omega.{arith}
use Rattle.listing_read.proofs.Skipping.{goes_line, line_least, line_most}
use Rattle.listing_read.proofs.inner.judge_block.Goals as goal

pub loop-i-smaller : goal.loop-i-smaller
loop-i-smaller c = let block = c.args.block.now in
    let less = line_least block c.loop-i.i c.loop-i.j c.loop-i-test.true in
    let most = line_most block c.loop-i.i c.loop-i.j c.loop-i.invariant.0 in
    rw c.judge_line-line.ensures (omega (arith, c.loop-i-test.true))

pub loop-i-preserved : goal.loop-i-preserved
loop-i-preserved c = let block = c.args.block.now in
    rw c.judge_line-line.ensures
    (line_most block c.loop-i.i c.loop-i.j c.loop-i.invariant.0, goes_line block _ c.loop-i.i c.loop-i.j c.loop-i.invariant.1)
