-- The states in the pane. Assumes nothing.
use Rattle.base.specs.declared.Refusal.{Refusal}
use Rattle.std.proofs.Common.{◌≡◌, ℕ, ◌<◌, ◌≤◌, Bool, true, false, ◌&&◌, List, [], ◌∷◌, sym, refl, ap, ◌∙◌, arith, ltb-true, le-ltb, eqb-true}
use Rattle.base.specs.Choice.{if◌then◌otherwise◌, ◌<?◌, ◌=?◌}
use Rattle.state.specs.declared.State.{State}
use Rattle.run.specs.declared.Outcome.{Outcome}
use Rattle.run.specs.declared.Outcome.TheVariants as outcome
use Rattle.run.specs.declared.RunAnswer.{RunAnswer}
use Rattle.base.proofs.Bools.{left, right}
use Rattle.pane_live.specs.Pane.{follows, taken_after, take, feed_by, feed, clear, after}
use Rattle.pane_live.specs.Laws.{Risen, InOrder, fed}
use Rattle.pane_live.specs.declared.Pane.{Pane}
use Rattle.pane_live.specs.declared.Pane.TheVariants.{Blank, One, Two}
use Rattle.pane_live.specs.declared.TakeAnswer.{TakeAnswer}
use Rattle.pane_live.specs.declared.TakeAnswer.TheVariants.{Taken, Unchanged, Refused}

-- "older and newer always rise in time and agree in centre"
after_one : (pane : Pane) (a s : State) → InOrder pane → InOrder (after pane (taken_after a s))
after_one pane a s order = go (follows a s) refl
  where
    go : (ok : Bool) → follows a s ≡ ok → InOrder (after pane (if ok then Taken (Two a s) otherwise Refused Refusal.NotNext))
    go true e =
        record {
          later = ltb-true a.moment s.moment (right (s.centre =? a.centre) (a.moment <? s.moment) e);
          centre = eqb-true s.centre a.centre (left (s.centre =? a.centre) (a.moment <? s.moment) e);
        }
    go false e = order

pub take_keeps : (pane : Pane) (s : State) → InOrder pane → InOrder (after pane (take pane s))
unfolding take
take_keeps Blank s order = tt
take_keeps (One a) s order = after_one (One a) a s order
take_keeps (Two a b) s order = after_one (Two a b) b s order

by_outcome : {R : Type 0} (o : Outcome R) (pane : Pane) (s : State) → InOrder pane → InOrder (after pane (feed_by o pane s))
by_outcome outcome.Arrived pane s order = take_keeps pane s order
by_outcome outcome.Going pane s order = take_keeps pane s order
by_outcome (outcome.Refused k) pane s order = order

pub feed_keeps : {R : Type 0} (pane : Pane) (r : RunAnswer R) → InOrder pane → InOrder (after pane (feed pane r))
unfolding feed
feed_keeps pane r order = by_outcome r.outcome pane r.state order

pub all_fed : {R : Type 0} (pane : Pane) (rs : List (RunAnswer R)) → InOrder pane → InOrder (fed pane rs)
all_fed pane [] order = order
all_fed pane (r ∷ rs) order = all_fed (after pane (feed pane r)) rs (feed_keeps pane r order)

-- "a refused run leaves the pane as it was"
pub refused_unchanged : {R : Type 0} (pane : Pane) (r : RunAnswer R) (k : R) → r.outcome ≡ outcome.Refused k → feed pane r ≡ Unchanged
unfolding feed
refused_unchanged {R} pane r k e = ap (λ (o : Outcome R). feed_by o pane r.state) e

-- "after `clear` it is empty and takes any centre"
pub cleared_takes : (s : State) → take clear s ≡ Taken (One s)
unfolding take
cleared_takes s = refl

-- a state that is not later is not taken: 18, and the pane is unchanged
not_later : (newer s : State) → s.moment ≤ newer.moment → taken_after newer s ≡ Refused Refusal.NotNext
not_later newer s old = rw (le-ltb newer.moment s.moment old) (go (s.centre =? newer.centre))
  where
    go : (same : Bool) → (if same && false then Taken (Two newer s) otherwise Refused Refusal.NotNext) ≡ Refused Refusal.NotNext
    go true = refl
    go false = refl

pub none_later : (a b s : State) → s.moment ≤ b.moment → take (Two a b) s ≡ Refused Refusal.NotNext
unfolding take
none_later a b s old = not_later b s old
