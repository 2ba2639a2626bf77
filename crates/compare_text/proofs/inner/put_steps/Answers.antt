-- `compare_text::inner::put_steps` meets its contract, name by name. Assumes nothing.
use native.Mathlib.Omega.{arith}
use Rattle.compare_report.proofs.Puts.{wider}
use borrow.Author.Rules.{rules}
use Rattle.compare_text.proofs.inner.put_steps.Goals as goal

pub put_numbered-requires : goal.put_numbered-requires
put_numbered-requires c = search rules

pub put_numbered-requires-in-Y : goal.put_numbered-requires-in-Y
put_numbered-requires-in-Y c = search rules

pub put_numbered-requires-in-Z : goal.put_numbered-requires-in-Z
put_numbered-requires-in-Z c = search rules

pub put_numbered-requires-in-VX : goal.put_numbered-requires-in-VX
put_numbered-requires-in-VX c = search rules

pub put_numbered-requires-in-VY : goal.put_numbered-requires-in-VY
put_numbered-requires-in-VY c = search rules

pub put_numbered-requires-in-VZ : goal.put_numbered-requires-in-VZ
put_numbered-requires-in-VZ c = search rules

pub returns-in-X : goal.returns-in-X
returns-in-X c = rw c.in-X.is (wider 24 c.put_numbered.ensures (omega arith))

pub returns-in-Y : goal.returns-in-Y
returns-in-Y c = rw c.in-Y.is (wider 24 c.put_numbered-in-Y.ensures (omega arith))

pub returns-in-Z : goal.returns-in-Z
returns-in-Z c = rw c.in-Z.is (wider 24 c.put_numbered-in-Z.ensures (omega arith))

pub returns-in-VX : goal.returns-in-VX
returns-in-VX c = rw c.in-VX.is (wider 24 c.put_numbered-in-VX.ensures (omega arith))

pub returns-in-VY : goal.returns-in-VY
returns-in-VY c = rw c.in-VY.is (wider 24 c.put_numbered-in-VY.ensures (omega arith))

pub returns-in-VZ : goal.returns-in-VZ
returns-in-VZ c = rw c.in-VZ.is (wider 24 c.put_numbered-in-VZ.ensures (omega arith))
