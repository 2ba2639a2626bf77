-- `compare_lines::inner::put_line` meets its contract. Assumes nothing.
use mathlib.Core.Path.{sym, ◌∙◌}
use native.Mathlib.Omega.{arith}
use lib.Seq.{length-take-le}
use Rattle.compare_lines.proofs.Likes.{line_short, put_ended, put_open}
use Rattle.compare_lines.proofs.inner.put_line.Goals as goal

pub slice_bounds-put_bytes-end : goal.slice_bounds-put_bytes-end
slice_bounds-put_bytes-end c = sym (length-take-le _ _ (omega (arith, c.line_length-n.ensures, line_short c.args.block.now)))

pub returns-then-line_ends : goal.returns-then-line_ends
returns-then-line_ends c = put_ended _ _ c.line_length-n.ensures
    (sym c.line_ends.ensures ∙ c.if-line_ends.true) c.put_bytes-end.ensures c.put_bytes.ensures

pub returns : goal.returns
returns c = put_open _ _ _ c.line_length-n.ensures (sym c.line_ends.ensures ∙ c.if-line_ends.false) c.put_bytes-end.ensures
