-- `compare_text::inner::put_one` meets its contract: six texts, one after the other. Assumes nothing.
use native.Mathlib.Omega.{arith}
use Rattle.compare_report.proofs.Puts.{joined, one_text}
use Rattle.compare_text.proofs.inner.put_one.Goals as goal

pub returns : goal.returns
returns c = let two = joined 100 c.put_component-y.ensures c.put_component-z.ensures (omega arith) in
    let four = joined 200 (joined 150 two c.put_component-vx.ensures (omega arith)) c.put_component-vy.ensures (omega arith) in
    rw (one_text c.args.r c.args.s)
    (joined 300 (joined 250 four c.put_component-vz.ensures (omega arith)) c.put_component.ensures (omega arith))
