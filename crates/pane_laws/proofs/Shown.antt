-- What is on air, and what is not, after any actions of a desk. Assumes nothing.
use mathlib.Core.List.{List}
use mathlib.Core.Path.{◌≡◌, refl, sym, ◌∙◌, subst}
use Prim.Native.Nat.{ℕ, suc, ◌-◌, ◌*◌, ◌≤◌, ◌<◌}
use native.Mathlib.Nat.{lt_of_mul-lt-mul_right, mul-le-mul_right}
use native.Mathlib.Omega.{arith}
use Rattle.base.specs.declared.Refusal.{Refusal}
use Rattle.std.specs.Prelude.{Ok, Err}
use Rattle.state.specs.declared.State.{State}
use Rattle.state.specs.declared.Setting.{Setting}
use Rattle.state.specs.declared.Vector.{Vector}
use Rattle.run.specs.Step.{step}
use Rattle.run.specs.Walk.{walk}
use Rattle.run.proofs.Walks.{walk_last}
use Rattle.centre_laws.specs.Legs.{Move, walk_with_moves, MovesStand}
use Rattle.centre_laws.proofs.Legs.{stand_walked}
use Rattle.pane_live.specs.Pane.{frame_at}
use Rattle.pane_live.specs.Laws.{InOrder, Shown}
use Rattle.pane_live.specs.declared.Pane.{Pane}
use Rattle.pane_live.specs.declared.Pane.TheVariants.{Blank, One, Two}
use Rattle.pane_live.specs.declared.FrameAnswer.{FrameAnswer}
use Rattle.pane_live.specs.declared.FrameAnswer.TheVariants as frame
use Rattle.pane_live.proofs.Frames as frames
use Rattle.pane_motion.specs.Motion.{motion_at}
use Rattle.pane_motion.specs.declared.Motion.{Motion}
use Rattle.pane_motion.proofs.Same.{same_frame, velocity_of}
use Rattle.pane_laws.specs.Desk.{Desk}
use Rattle.pane_laws.specs.OnAir.{OnAir, OffAir, empty, late, OnAirMoving, OffAirMoving, empty_moving, late_moving}
use Rattle.pane_laws.proofs.Reached.{not_past, walk_clock, Reached, PaneReached}
use Rattle.pane_laws.proofs.Kept.{always}

module _ (setting : Setting) (h : ℕ) (injection : State) (b : List ℕ) (made : List Move) (hand : List State) (pane : Pane) where
  -- the walk has one state after its last move
  one_start : (x y : State) → walk_with_moves b setting h made injection ≡ Ok x → walk_with_moves b setting h made injection ≡ Ok y → x ≡ y
  one_start x y e f = let same : Ok x ≡ Ok y = sym e ∙ f in cc

  -- two reached states of which the second is later: it has more steps
  more_steps : (start x y : State) (r : Reached b setting h start x) (q : Reached b setting h start y) → x.moment < y.moment → r.n < q.n
  more_steps start x y r q rises =
      let one = r.clock in
      let two = q.clock in
      let less : r.n * h < q.n * h = omega arith in
      lt_of_mul-lt-mul_right h less

  by_held : (t : ℕ) (p : Vector) (start : State) → MovesStand b setting h injection made start
      → PaneReached b setting h start pane → InOrder pane → Shown pane t p → OnAir b setting h injection made t p
  by_held t p start stand holds order shown =
      let both = subst (PaneReached b setting h start) shown.held holds in
      let risen = subst InOrder shown.held order in
      record {
        start = start;
        moved = stand_walked b setting h injection start made stand;
        moves = stand;
        n0 = both.0.n;
        n1 = both.1.n;
        rises = more_steps start shown.older shown.newer both.0 both.1 risen.later;
        older = shown.older;
        newer = shown.newer;
        walked0 = both.0.walked;
        walked1 = both.1.walked;
        from = shown.from;
        until = shown.until;
        is = shown.is;
      }

  -- For all actions of the desk: a position on air lies on the cubic through two states of the plain walk around its moment.
  pub on_air : Desk setting h injection b made hand pane → (t : ℕ) (p : Vector) → frame_at pane t ≡ frame.Current p → OnAir b setting h injection made t p
  on_air desk t p e =
      let sound = always setting h injection b made hand pane desk in
      by_held t p sound.start sound.stand sound.holds sound.order (frames.current pane t p sound.order e)

  -- No figure is shown for a moment that the plain walk has not reached.
  pub never_ahead : Desk setting h injection b made hand pane → (t : ℕ)
      → ((start s : State) (n : ℕ) → walk_with_moves b setting h made injection ≡ Ok start → walk (step b setting h) n start ≡ Ok s → s.moment < t)
      → (p : Vector) → frame_at pane t ≡ frame.Current p → ⊥
  never_ahead desk t ahead p e =
      let shown = on_air desk t p e in
      let past = ahead shown.start shown.newer shown.n1 shown.moved shown.walked1 in
      let until = shown.until in
      omega arith

  module _ (start last : State) (n : ℕ) (k : Refusal) (walked : walk (step b setting h) n start ≡ Ok last) (off : step b setting h last ≡ Err k) (t : ℕ) (past : last.moment < t) where
    -- no state that the walk reaches is later than the last
    not_later : (s : State) → Reached b setting h start s → s.moment ≤ last.moment
    not_later s r =
        let ends = walk_last (step b setting h) n start last walked ∙ off in
        let few : r.n < suc n = not_past (step b setting h) start (suc n) k ends r.n s r.walked in
        let no_more : r.n ≤ n = omega arith in
        let less = mul-le-mul_right h no_more in
        let here = r.clock in
        let there = walk_clock b setting h n start last walked in
        omega arith

    by_pane : (held : Pane) → PaneReached b setting h start held → OffAir b setting h start last t (frame_at held t)
    unfolding frame_at
    by_pane Blank holds = empty
    by_pane (One a) holds = empty
    by_pane (Two a c) holds =
        let within = not_later c holds.1 in
        let gone : c.moment < t = omega arith in
        subst (OffAir b setting h start last t) (sym (frames.late a c t gone)) (late holds.1.n c holds.1.walked within gone)

  -- For all actions of the desk: while the step after `last` cannot be taken under the book in use, nothing past `last` is on air.
  pub off_air : Desk setting h injection b made hand pane → (start last : State) (n : ℕ) (k : Refusal) (t : ℕ) → walk_with_moves b setting h made injection ≡ Ok start
      → walk (step b setting h) n start ≡ Ok last → step b setting h last ≡ Err k → last.moment < t → OffAir b setting h start last t (frame_at pane t)
  off_air desk start last n k t moved walked off past =
      let sound = always setting h injection b made hand pane desk in
      let same = one_start sound.start start (stand_walked b setting h injection sound.start made sound.stand) moved in
      by_pane start last n k walked off t past pane (subst (λ (x : State). PaneReached b setting h x pane) same sound.holds)

  -- ---- the same for a frame with velocity

  pub on_air_moving : Desk setting h injection b made hand pane → (t : ℕ) (m : Motion) → motion_at pane t ≡ frame.Current m → OnAirMoving b setting h injection made t m
  unfolding by_held
  on_air_moving desk t m e =
      let sound = always setting h injection b made hand pane desk in
      let shown = frames.current pane t m.position sound.order ((same_frame pane t).current m e) in
      record {
        place = by_held t m.position sound.start sound.stand sound.holds sound.order shown;
        speed = velocity_of shown.older shown.newer t m (subst (λ (p : Pane). motion_at p t ≡ frame.Current m) shown.held e);
      }

  pub off_air_moving : Desk setting h injection b made hand pane → (start last : State) (n : ℕ) (k : Refusal) (t : ℕ) → walk_with_moves b setting h made injection ≡ Ok start
      → walk (step b setting h) n start ≡ Ok last → step b setting h last ≡ Err k → last.moment < t → OffAirMoving b setting h start last t (motion_at pane t)
  off_air_moving desk start last n k t moved walked off past =
      go (frame_at pane t) refl (off_air desk start last n k t moved walked off past)
    where
      go : (answer : FrameAnswer Vector Refusal) → frame_at pane t ≡ answer → OffAir b setting h start last t answer → OffAirMoving b setting h start last t (motion_at pane t)
      go answer e empty = subst (OffAirMoving b setting h start last t) (sym ((same_frame pane t).empty.1 e)) empty_moving
      go answer e (late m s reached within gone) =
          subst (OffAirMoving b setting h start last t) (sym (((same_frame pane t).late (t - s.moment)).1 e)) (late_moving m s reached within gone)
