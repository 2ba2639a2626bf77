-- The kept part of a line stays within its array.
use Rattle.std.specs.Prelude.{◌≤◌}
use Rattle.ask.proofs.answer_all.Given as goal

abbrev pub invariant-loop : goal.invariant-loop
invariant-loop g l = l.kept ≤ 1_001
