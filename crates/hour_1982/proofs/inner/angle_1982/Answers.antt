-- `hour_1982::inner::angle_1982` meets its contract: the carries of `Century` at the code's sums. Assumes nothing.
use native.Mathlib.Omega.{arith}
use Rattle.hour_1982.proofs.Century.{angle_1982_of}
use Rattle.hour_1982.proofs.inner.angle_1982.Goals as goal

pub returns : goal.returns
returns c = let b = c.before in
    let e = c.day_in_spans-day in
    angle_1982_of b.args.t b.rate_in_spans-rate.result e.result b.args.d (omega (arith, b.requires.0)) b.rate_in_spans-rate.ensures e.ensures
