-- `compare_lines::inner::compare_turn` meets its contract. Assumes nothing.
use mathlib.Core.Path.{sym, ◌∙◌}
use native.Mathlib.Omega.{arith}
use Rattle.compare_lines.proofs.Likes.{so_far_short}
use Rattle.compare_lines.proofs.inner.compare_turn.Goals as goal

pub overflow_add-result : goal.overflow_add-result
overflow_add-result c = omega (arith, c.requires.0, so_far_short c.args.a.now c.args.b.now 0 _ (sym c.compare_blocks.ensures ∙ c.in-SoFar.is))
