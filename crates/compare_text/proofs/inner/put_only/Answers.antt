-- `compare_text::inner::put_only` meets its contract. Assumes nothing.
use native.Mathlib.Omega.{arith}
use Rattle.compare_report.proofs.Puts.{wider, only_text_lem}
use Rattle.compare_text.proofs.inner.put_only.Goals as goal

pub returns : goal.returns
returns c = rw (only_text_lem c.args.listing c.args.moment) (wider 300 c.put_two.ensures (omega arith))
