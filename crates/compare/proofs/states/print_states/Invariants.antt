-- What is read lies in its block, and a reading that is over has no byte in its block.
use Rattle.std.specs.Prelude.{◌≤◌}
use Rattle.compare_blocks.specs.Sides.{Shut}
use Rattle.compare.proofs.states.print_states.Given as goal

abbrev pub invariant-loop : goal.invariant-loop
invariant-loop g l = (l.one.n ≤ 65_536) × (l.two.n ≤ 65_536) × Shut l.one.n l.first × Shut l.two.n l.second
