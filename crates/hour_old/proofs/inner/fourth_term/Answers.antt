-- `hour_old::inner::fourth_term` meets its contract: the bounds of its products and the law of the estimate, both in `Quotients`. Assumes nothing.
use Rattle.hour_old.proofs.Quotients.{is_estimate}
use Rattle.hour_old.proofs.inner.fourth_term.Goals as goal

pub returns : goal.returns
returns c = is_estimate _ _ c.requires.0 c.requires.1
