-- `compare_text::inner::put_first_refusal` meets its contract: the first listing first. Assumes nothing.
use native.Mathlib.Omega.{arith}
use borrow.Author.Tests.{lt-ltb, le-ltb}
use Rattle.compare_report.specs.Report.{first_refusal}
use Rattle.compare_report.proofs.Puts.{none, wider}
use Rattle.compare_text.proofs.inner.put_first_refusal.Goals as goal

pub returns-then-line-gt0 : goal.returns-then-line-gt0
unfolding first_refusal
returns-then-line-gt0 c = rw (lt-ltb 0 _ c.if-line-gt0.true) (wider 300 c.put_two.ensures (omega arith))

pub returns-then-other-gt0 : goal.returns-then-other-gt0
unfolding first_refusal
returns-then-other-gt0 c = rw (le-ltb 0 _ c.if-line-gt0.false, lt-ltb 0 _ c.if-other-gt0.true) (wider 300 c.put_two-then-other-gt0.ensures (omega arith))

pub returns : goal.returns
unfolding first_refusal
returns c = rw (le-ltb 0 _ c.if-line-gt0.false, le-ltb 0 _ c.if-other-gt0.false) (none _ _ 300)
