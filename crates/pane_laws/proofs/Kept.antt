-- For all actions of a desk, every state in hand and in the pane is a state of the plain walk after its last move. Assumes nothing.
use mathlib.Core.List.{List, [], ◌∷◌, ◌++◌}
use mathlib.Core.Path.{◌≡◌}
use Prim.Native.Nat.{ℕ}
use Rattle.std.specs.Prelude.{Ok}
use Rattle.state.specs.declared.State.{State}
use Rattle.state.specs.declared.Setting.{Setting}
use Rattle.run.specs.Run.{run_answer}
use Rattle.centre.specs.Move.{move_answer}
use Rattle.centre_laws.specs.Legs.{Move, MovesStand, none}
use Rattle.centre_laws.proofs.Legs.{at_its_moment, stands_there, one_more_stands}
use Rattle.book_laws.proofs.Walks.{moves_fuller}
use Rattle.pane_live.specs.Laws.{InOrder}
use Rattle.pane_live.specs.declared.Pane.{Pane}
use Rattle.pane_live.proofs.Taken.{take_keeps, feed_keeps}
use Rattle.pane_laws.specs.Desk.{InHand, Desk, begins, runs, tries, offers, clears, renews, moves}
use Rattle.pane_laws.proofs.Reached.{itself, ran_on, AllReached, PaneReached, in_hand, taken_on, fed_on, all_still, pane_still}

module _ (setting : Setting) (h : ℕ) (injection : State) where
  pub record Sound (b : List ℕ) (made : List Move) (hand : List State) (pane : Pane) : Type 0 where
    pub start : State
    pub stand : MovesStand b setting h injection made start
    pub hands : AllReached b setting h start hand
    pub holds : PaneReached b setting h start pane
    pub order : InOrder pane

  moved_on : (b : List ℕ) (made : List Move) (hand : List State) (pane : Pane) (s next : State) (centre : ℕ) → Sound b made hand pane → InHand s hand
      → move_answer b setting s centre ≡ Ok next
      → MovesStand b setting h injection (made ++ (record { at = s.moment; centre = centre } ∷ [])) next
  moved_on b made hand pane s next centre before i e =
      let r = in_hand b setting h before.start s hand before.hands i in
      one_more_stands b setting h injection before.start next made (record { at = s.moment; centre = centre }) before.stand
      (stands_there b setting h before.start s next centre (at_its_moment b setting h before.start s r.n r.walked r.clock r.long) e)

  pub always : (b : List ℕ) (made : List Move) (hand : List State) (pane : Pane) → Desk setting h injection b made hand pane → Sound b made hand pane
  always b made hand pane (begins b') =
      record { start = injection; stand = none injection; hands = (itself b setting h injection, tt); holds = tt; order = tt }
  always b made hand pane (runs b' made' hand' pane' s target budget given d i) =
      let before = always b made hand' pane' d in
      let here = in_hand b setting h before.start s hand' before.hands i in
      let r = run_answer b setting s h target budget given in
      let there = ran_on b setting h before.start s target budget given here in
      record {
        start = before.start;
        stand = before.stand;
        hands = (there, before.hands);
        holds = fed_on b setting h before.start pane' r before.holds there;
        order = feed_keeps pane' r before.order;
      }
  always b made hand pane (tries b' made' hand' pane' s target budget given d i) =
      let before = always b made hand' pane d in
      let here = in_hand b setting h before.start s hand' before.hands i in
      record {
        start = before.start;
        stand = before.stand;
        hands = (ran_on b setting h before.start s target budget given here, before.hands);
        holds = before.holds;
        order = before.order;
      }
  always b made hand pane (offers b' made' hand' pane' s d i) =
      let before = always b made hand pane' d in
      record {
        start = before.start;
        stand = before.stand;
        hands = before.hands;
        holds = taken_on b setting h before.start pane' s before.holds (in_hand b setting h before.start s hand before.hands i);
        order = take_keeps pane' s before.order;
      }
  always b made hand pane (clears b' made' hand' pane' d) =
      let before = always b made hand pane' d in
      record { start = before.start; stand = before.stand; hands = before.hands; holds = tt; order = tt }
  always b made hand pane (renews a b' made' hand' pane' d fuller pass) =
      let before = always a made hand pane d in
      record {
        start = before.start;
        stand = moves_fuller a b fuller pass setting h injection before.start made before.stand;
        hands = all_still a b fuller pass setting h before.start hand before.hands;
        holds = pane_still a b fuller pass setting h before.start pane before.holds;
        order = before.order;
      }
  always b made hand pane (moves b' made' hand' pane' s next centre d i e) =
      record {
        start = next;
        stand = moved_on b made' hand' pane' s next centre (always b made' hand' pane' d) i e;
        hands = (itself b setting h next, tt);
        holds = tt;
        order = tt;
      }
