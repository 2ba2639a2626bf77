-- The kept part of a line and the answers stay within their arrays.
use Rattle.std.specs.Prelude.{◌≤◌}
use Rattle.ask.proofs.answer_block.Given as goal

abbrev pub invariant-loop-byte : goal.invariant-loop-byte
invariant-loop-byte g l = (l.n ≤ 1_001) × (l.at ≤ 65_536)
