-- `hour_1982::inner::rate_in_spans` meets its contract. Assumes nothing.
use Rattle.hour_1982.proofs.Century.{rate_spelled}
use Rattle.hour_1982.proofs.inner.rate_in_spans.Goals as goal

pub returns : goal.returns
returns c = let a = c.before in rate_spelled a.args.s c.in_spans-bend.result a.requires c.in_spans-bend.ensures
