-- `centre::move_by` meets its contract. Assumes nothing.
use Rattle.centre.specs.Move.{shifted}
use Rattle.centre.proofs.move_by.Goals as goal

pub kept_or_7-requires : goal.kept_or_7-requires
unfolding shifted
kept_or_7-requires c = (c.requires.0, rw c.shifted_state.ensures c.requires.1)
