-- A reading that is over has no byte in the next block either.
use Rattle.std.proofs.Common.{rules}
use Rattle.compare.proofs.Standing.{next_shut}
use Rattle.compare.proofs.states.print_states.Goals as goal

pub loop-preserved : goal.loop-preserved
loop-preserved g c = (
  search rules,
  search rules,
  next_shut c.loop.a _ _ _ _ _ (search rules) c.portion-p.ensures.first_shut (search rules) c.go_on-first.ensures,
  next_shut c.loop.b _ _ _ _ _ (search rules) c.portion-p.ensures.second_shut (search rules) c.go_on-second.ensures,
)
