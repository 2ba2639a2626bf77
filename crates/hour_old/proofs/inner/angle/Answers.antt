-- `hour_old::inner::angle` meets its contract: the laws of `Sum` at the code's sums. Assumes nothing.
use Rattle.hour_old.proofs.Sum.{angle_of}
use Rattle.hour_old.proofs.inner.angle.Goals as goal

pub returns : goal.returns
returns c = let f = c.before in angle_of f.args.d f.args.t f.fourth_term-turned.ensures c.fraction.ensures
