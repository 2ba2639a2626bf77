-- `step::inner::fourth_stage` meets its contract. Assumes nothing.
use Prim.Native.Nat.{◌+◌}
use mathlib.Core.Path.{◌∙◌}
use Rattle.base.proofs.Checks.{turned_away}
use Rattle.state.specs.State.{position, acceleration}
use Rattle.gravity.specs.Acceleration.{acceleration_at}
use Rattle.step.specs.Step.{along, step_h, keeping}
use Rattle.step.specs.Stages.{velocity3, lastly}
use Rattle.step.specs.Entries.{entries_after}
use Rattle.step.proofs.Answered.{answered, goes_on, leaves, ended_lastly}
use Rattle.step.proofs.inner.fourth_stage.Goals as goal

pub returns : goal.returns
returns c = let x = c.args in
    let b = x.book.now in
    let acc = acceleration_at b x.setting x.s.centre in
    let P4 = along (position x.s) (step_h x.h) (velocity3 x.h x.s x.a2) in
    goes_on (acc (x.s.moment + x.h) P4) _ (lastly (keeping acc) x.h x.s (acceleration x.s) x.a2 x.a3) (entries_after b x.setting x.h x.s) _
    (answered b x.setting x.s.centre
    c.requires.1.1 (x.s.moment + x.h) P4 _ _ _ _ (rw
    (c.toward-p4.ensures, c.seconds.ensures, c.position_of.ensures, c.toward-v3.ensures, c.half_of.ensures, c.velocity_of.ensures))
    c.seen_at-seen.ensures.0 c.acceleration_by.ensures c.in_ok-a4.was)
    (c.finish.ensures ∙ ended_lastly b x.setting x.s
    c.requires.1.1 x.h _
    c.seen_at-seen.ensures.0 (acceleration
    x.s) x.a2 x.a3 c.in_ok-a4.a4)

pub returns-in_err-a4 : goal.returns-in_err-a4
returns-in_err-a4 c = let x = c.args in
    let b = x.book.now in
    let acc = acceleration_at b x.setting x.s.centre in
    let P4 = along (position x.s) (step_h x.h) (velocity3 x.h x.s x.a2) in
    turned_away _ _ c.from_residual.ensures.1
    ∙ leaves (acc (x.s.moment + x.h) P4) _ (lastly (keeping acc) x.h x.s (acceleration x.s) x.a2 x.a3) (entries_after b x.setting x.h x.s)
    (answered b x.setting x.s.centre
    c.requires.1.1 (x.s.moment + x.h) P4 _ _ _ _ (rw
    (c.toward-p4.ensures, c.seconds.ensures, c.position_of.ensures, c.toward-v3.ensures, c.half_of.ensures, c.velocity_of.ensures))
    c.seen_at-seen.ensures.0 c.acceleration_by.ensures c.in_err-a4.was)
