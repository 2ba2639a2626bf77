-- `gravity::inner::acceleration_under` meets its contract. Assumes nothing.
use mathlib.Core.Path.{sym, ◌∙◌}
use Rattle.gravity.proofs.Places.{none_used, no_less}
use Rattle.gravity.proofs.Under.{clear}
use Rattle.gravity.proofs.inner.acceleration_under.Goals as goal

pub returns : goal.returns
returns g c = let x = c.args in
    let o = x.bodies.others in
    let u = none_used _ _ _ (sym c.any_used.ensures ∙ c.if-any_used.false) in
    rw (c.settle.ensures, c.sunlit_sum.ensures, c.oblate_sum-with_earth.ensures, c.near_sum-near.ensures)
    (sym (
    clear _ x.bodies x.setting x.p c.in_ok-bodies.was
    ∙ rw (no_less x.p _ o.third u.0, no_less x.p _ o.fourth u.1, no_less x.p _ o.fifth u.2)
    ))
