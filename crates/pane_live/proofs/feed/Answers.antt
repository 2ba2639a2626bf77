-- `pane_live::feed` meets its contract. Assumes nothing.
use Rattle.pane_live.specs.Pane.{feed}
use Rattle.pane_live.proofs.feed.Goals as goal

pub returns : goal.returns
unfolding feed
returns g c = c.feed_by.ensures
