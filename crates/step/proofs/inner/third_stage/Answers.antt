-- `step::inner::third_stage` meets its contract. Assumes nothing.
use mathlib.Core.Path.{◌∙◌}
use Prim.Native.Nat.{◌+◌, ◌/◌}
use Rattle.base.proofs.Checks.{turned_away}
use Rattle.state.specs.State.{position, acceleration}
use Rattle.gravity.specs.Acceleration.{acceleration_at}
use Rattle.step.specs.Step.{along, half, keeping}
use Rattle.step.specs.Stages.{stage4, velocity2}
use Rattle.step.specs.Entries.{entries_after}
use Rattle.step.proofs.Answered.{answered, goes_on, leaves}
use Rattle.step.proofs.inner.third_stage.Goals as goal

pub returns : goal.returns
returns c = let x = c.args in
    let b = x.book.now in
    let acc = acceleration_at b x.setting x.s.centre in
    let P3 = along (position x.s) (half x.h) (velocity2 x.h x.s (acceleration x.s)) in
    goes_on (acc (x.s.moment + x.h / 2) P3) _ (stage4 acc (keeping acc) x.h x.s (acceleration x.s) x.a2) (entries_after b x.setting x.h x.s) _
    (answered b x.setting x.s.centre
    c.requires.ready.1.1 (x.s.moment + x.h / 2) P3 _ _ _ _ (rw
    (c.toward-p3.ensures, c.position_of.ensures, c.toward-v2.ensures, c.acceleration_of.ensures, c.velocity_of.ensures, c.half_of-half.ensures))
    c.requires.bodies_value c.acceleration_under.ensures c.in_ok-a3.was)
    c.fourth_stage.ensures

pub returns-in_err-a3 : goal.returns-in_err-a3
returns-in_err-a3 c = let x = c.args in
    let b = x.book.now in
    let acc = acceleration_at b x.setting x.s.centre in
    let P3 = along (position x.s) (half x.h) (velocity2 x.h x.s (acceleration x.s)) in
    turned_away _ _ c.from_residual.ensures.1
    ∙ leaves (acc (x.s.moment + x.h / 2) P3) _ (stage4 acc (keeping acc) x.h x.s (acceleration x.s) x.a2) (entries_after b x.setting x.h x.s)
    (answered b x.setting x.s.centre c.requires.ready.1.1
    (x.s.moment + x.h / 2) P3 _ _ _ _ (rw
    (c.toward-p3.ensures, c.position_of.ensures, c.toward-v2.ensures, c.acceleration_of.ensures, c.velocity_of.ensures, c.half_of-half.ensures))
    c.requires.bodies_value c.acceleration_under.ensures c.in_err-a3.was)
