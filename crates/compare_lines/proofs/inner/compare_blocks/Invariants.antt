-- `compare_lines::inner::compare_blocks` meets its contract: so many bytes are the same in both blocks. Assumes nothing.
use mathlib.Core.Path.{◌≡◌}
use lib.ListN.{length, drop}
use Rattle.compare_lines.specs.Stages.{likeness}
use Rattle.compare_lines.proofs.inner.compare_blocks.Given as goal

abbrev pub invariant-loop-x : goal.invariant-loop-x
invariant-loop-x l = likeness 0 l.a l.b ≡ likeness (length l.yielded) (drop (length l.yielded) l.a) (drop (length l.yielded) l.b)
