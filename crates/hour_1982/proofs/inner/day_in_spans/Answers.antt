-- `hour_1982::inner::day_in_spans` meets its contract. Assumes nothing.
use Rattle.hour_1982.proofs.Century.{day_spelled_lem}
use Rattle.hour_1982.proofs.inner.day_in_spans.Goals as goal

pub returns : goal.returns
returns c = let a = c.before in let g = c.in_spans-bend in
    day_spelled_lem a.args.s g.result a.requires g.ensures
