-- `hour::hour_angle` meets its contract: it is the rule 0. Assumes nothing.
use borrow.Author.Rules.{rules}
use Rattle.hour.proofs.hour_angle.Goals as goal

pub sidereal-requires : goal.sidereal-requires
sidereal-requires c = search rules

pub returns : goal.returns
returns c = c.sidereal.ensures
