-- `gravity::inner::acceleration_by` meets its contract. Assumes nothing.
use mathlib.Core.Path.{sym}
use Rattle.gravity.proofs.Under.{clear}
use Rattle.gravity.proofs.inner.acceleration_by.Goals as goal

pub returns : goal.returns
returns g c = let x = c.args in
    rw (
      c.settle.ensures,
      c.sunlit_sum.ensures,
      c.oblate_sum-with_earth.ensures,
      c.less_by-all.ensures,
      c.less_by-with_fourth.ensures,
      c.less_by-with_third.ensures,
      c.near_sum_by-near.ensures,
    )
    (sym (clear _ x.bodies x.setting x.p c.in_ok-bodies.was))
