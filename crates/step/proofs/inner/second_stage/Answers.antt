-- `step::inner::second_stage` meets its contract. Assumes nothing.
use mathlib.Core.Path.{◌∙◌}
use Prim.Native.Nat.{◌+◌, ◌/◌}
use Rattle.base.proofs.Checks.{turned_away}
use Rattle.state.specs.State.{position, velocity, acceleration}
use Rattle.gravity.specs.Acceleration.{acceleration_at}
use Rattle.step.specs.Step.{along, half, keeping}
use Rattle.step.specs.Stages.{stage3}
use Rattle.step.specs.Entries.{entries_after}
use Rattle.step.proofs.Answered.{answered, goes_on, leaves}
use Rattle.step.proofs.inner.second_stage.Goals as goal

pub returns : goal.returns
returns c = let x = c.args in
    let b = x.book.now in
    let acc = acceleration_at b x.setting x.s.centre in
    let P2 = along (position x.s) (half x.h) (velocity x.s) in
    goes_on (acc (x.s.moment + x.h / 2) P2) _ (stage3 acc (keeping acc) x.h x.s (acceleration x.s)) (entries_after b x.setting x.h x.s) _
    (answered b x.setting x.s.centre
    c.requires.1.1 (x.s.moment + x.h / 2) P2 _ _ _ _ (rw
    (c.toward-p2.ensures, c.velocity_of.ensures, c.half_of.ensures, c.position_of.ensures))
    c.seen_at-seen.ensures.0 c.acceleration_by.ensures c.in_ok-a2.was)
    c.third_stage.ensures

pub returns-in_err-a2 : goal.returns-in_err-a2
returns-in_err-a2 c = let x = c.args in
    let b = x.book.now in
    let acc = acceleration_at b x.setting x.s.centre in
    let P2 = along (position x.s) (half x.h) (velocity x.s) in
    turned_away _ _ c.from_residual.ensures.1
    ∙ leaves (acc (x.s.moment + x.h / 2) P2) _ (stage3 acc (keeping acc) x.h x.s (acceleration x.s)) (entries_after b x.setting x.h x.s)
    (answered b x.setting x.s.centre c.requires.1.1
    (x.s.moment + x.h / 2) P2 _ _ _ _ (rw
    (c.toward-p2.ensures, c.velocity_of.ensures, c.half_of.ensures, c.position_of.ensures))
    c.seen_at-seen.ensures.0 c.acceleration_by.ensures c.in_err-a2.was)
