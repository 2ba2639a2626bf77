-- A frame with velocity compared with the frame without. Assumes nothing.
use mathlib.Core.Bool.{Bool, true, false}
use mathlib.Core.Logic.{◌⊎◌, inl, inr, ⊎_elim}
use mathlib.Core.Path.{◌≡◌, refl, sym, ap, subst, ◌∙◌}
use Prim.Native.Nat.{ℕ, ◌-◌, ◌<◌}
use native.Mathlib.Omega.{arith}
use borrow.Author.Tests.{eq-eqb, ne_eqb}
use Rattle.base.specs.declared.Refusal.{Refusal}
use Rattle.base.specs.Choice.{if◌then◌otherwise◌}
use Rattle.state.specs.State.{position, velocity, finite_vector}
use Rattle.state.specs.declared.State.{State}
use Rattle.state.specs.declared.Vector.{Vector}
use Rattle.pane_live.specs.Pane.{frame_at}
use Rattle.pane_live.specs.declared.Pane.{Pane}
use Rattle.pane_live.specs.declared.Pane.TheVariants.{Blank, One, Two}
use Rattle.pane_live.specs.declared.FrameAnswer.{FrameAnswer}
use Rattle.pane_live.specs.declared.FrameAnswer.TheVariants.{Current, Late, Empty, Refused}
use Rattle.pane_live.proofs.Frames as frames
use Rattle.pane_motion.specs.Motion.{frame_velocity, moving, with_velocity, motion_at}
use Rattle.pane_motion.specs.Laws.{NoVelocity, SameFrame}
use Rattle.pane_motion.specs.declared.Motion.{Motion}

-- ---- what is shown with a velocity v, for each answer of a frame

current_of : (f : FrameAnswer Vector Refusal) (v : Vector) (m : Motion) → with_velocity f v ≡ Current m → f ≡ Current m.position
current_of (Current p) v m e = by (finite_vector v) e
  where
    by : (fin : Bool) → (if fin then Current (moving p v) otherwise Refused Refusal.NotFinite) ≡ Current m
        → ◌≡◌ {A = FrameAnswer Vector Refusal} (Current p) (Current m.position)
    by true e = let same : moving p v ≡ m = cc in ap (λ (x : Motion). Current x.position) same
    by false e = let z : ◌≡◌ {A = ℕ} 0 1 = cc in absurd (omega arith)
current_of (Late ms) v m e = let z : ◌≡◌ {A = ℕ} 0 1 = cc in absurd (omega arith)
current_of Empty v m e = let z : ◌≡◌ {A = ℕ} 0 1 = cc in absurd (omega arith)
current_of (Refused k) v m e = let z : ◌≡◌ {A = ℕ} 0 1 = cc in absurd (omega arith)

-- an answer that no current frame gives
not_current : (p v : Vector) (answer : FrameAnswer Motion Refusal) → ((m : Motion) → Current m ≡ answer → ⊥) → (Refused Refusal.NotFinite ≡ answer → ⊥) → with_velocity (Current p) v ≡ answer → ⊥
not_current p v answer no-motion no_refusal = by (finite_vector v)
  where
    by : (fin : Bool) → (if fin then Current (moving p v) otherwise Refused Refusal.NotFinite) ≡ answer → ⊥
    by true e = no-motion (moving p v) e
    by false e = no_refusal e

late_of : (f : FrameAnswer Vector Refusal) (v : Vector) (ms : ℕ) → with_velocity f v ≡ Late ms → f ≡ Late ms
late_of (Current p) v ms e =
    absurd
    (not_current p v (Late ms) (λ m e. let z : ◌≡◌ {A = ℕ} 0 1 = cc in omega arith) (λ e. let z : ◌≡◌ {A = ℕ} 0 1 = cc in omega arith) e)
late_of (Late by) v ms e = cc
late_of Empty v ms e = let z : ◌≡◌ {A = ℕ} 0 1 = cc in absurd (omega arith)
late_of (Refused k) v ms e = let z : ◌≡◌ {A = ℕ} 0 1 = cc in absurd (omega arith)

empty_of : (f : FrameAnswer Vector Refusal) (v : Vector) → with_velocity f v ≡ Empty → f ≡ Empty
empty_of (Current p) v e =
    absurd
    (not_current p v Empty (λ m e. let z : ◌≡◌ {A = ℕ} 0 1 = cc in omega arith) (λ e. let z : ◌≡◌ {A = ℕ} 0 1 = cc in omega arith) e)
empty_of (Late by) v e = let z : ◌≡◌ {A = ℕ} 0 1 = cc in absurd (omega arith)
empty_of Empty v e = refl
empty_of (Refused k) v e = let z : ◌≡◌ {A = ℕ} 0 1 = cc in absurd (omega arith)

-- 7 only because of the velocity
record Alone (f : FrameAnswer Vector Refusal) (v : Vector) (k : Refusal) : Type 0 where
  seven : k ≡ Refusal.NotFinite
  place : Vector
  shows : f ≡ Current place
  unfit : finite_vector v ≡ false

refused_of : (f : FrameAnswer Vector Refusal) (v : Vector) (k : Refusal) → with_velocity f v ≡ Refused k → (f ≡ Refused k) ⊎ Alone f v k
refused_of (Current p) v k e = by (finite_vector v) refl e
  where
    by : (fin : Bool) → finite_vector v ≡ fin → (if fin then Current (moving p v) otherwise Refused Refusal.NotFinite) ≡ Refused k → (Current p ≡ Refused k) ⊎ Alone (Current p) v k
    by true f e = let z : ◌≡◌ {A = ℕ} 0 1 = cc in absurd (omega arith)
    by false f e = inr (record { seven = cc; place = p; shows = refl; unfit = f })
refused_of (Late ms) v k e = let z : ◌≡◌ {A = ℕ} 0 1 = cc in absurd (omega arith)
refused_of Empty v k e = let z : ◌≡◌ {A = ℕ} 0 1 = cc in absurd (omega arith)
refused_of (Refused j) v k e = inl (cc)

-- ---- the law

nothing_same : (pane : Pane) (t : ℕ) → frame_at pane t ≡ Empty → motion_at pane t ≡ Empty → SameFrame pane t
nothing_same pane t f g =
    record {
      current = λ m e. let z : ◌≡◌ {A = ℕ} 0 1 = cc in absurd (omega arith);
      late = λ ms. (
        λ e. let z : ◌≡◌ {A = ℕ} 0 1 = cc in absurd (omega arith),
        λ e. let z : ◌≡◌ {A = ℕ} 0 1 = cc in absurd (omega arith),
      );
      empty = (λ e. f, λ e. g);
      refused = λ k. (
        λ e. let z : ◌≡◌ {A = ℕ} 0 1 = cc in absurd (omega arith),
        ⊎_elim
            (λ e. let z : ◌≡◌ {A = ℕ} 0 1 = cc in absurd (omega arith))
            (λ n. let shown = n.1.shown in let z : ◌≡◌ {A = ℕ} 0 1 = cc in absurd (omega arith)),
      );
    }

module _ (a b : State) (t : ℕ) where
  -- what the frame shows, with the velocity
  pub of_frame_lem : (f : FrameAnswer Vector Refusal) → frame_at (Two a b) t ≡ f → motion_at (Two a b) t ≡ with_velocity f (frame_velocity a b t)
  unfolding motion_at
  of_frame_lem f e = ap (λ (g : FrameAnswer Vector Refusal). with_velocity g (frame_velocity a b t)) e

  unfit_refused : NoVelocity (Two a b) t → motion_at (Two a b) t ≡ Refused Refusal.NotFinite
  unfit_refused n =
      let held = n.held in
      let first : n.older ≡ a = cc in
      let second : n.newer ≡ b = cc in
      let unfit : finite_vector (frame_velocity a b t) ≡ false =
      subst (λ (x : State). finite_vector (frame_velocity a x t) ≡ false) second
      (subst (λ (x : State). finite_vector (frame_velocity x n.newer t) ≡ false) first n.not_finite) in
      of_frame_lem (Current n.position) n.shown
      ∙ ap (λ (fin : Bool). if fin then Current (moving n.position (frame_velocity a b t)) otherwise Refused Refusal.NotFinite) unfit

  two_same : SameFrame (Two a b) t
  unfolding motion_at
  two_same =
      let f = frame_at (Two a b) t in
      let v = frame_velocity a b t in
      record {
        current = λ m e. current_of f v m e;
        late = λ ms. (late_of f v ms, λ e. of_frame_lem (Late ms) e);
        empty = (empty_of f v, λ e. of_frame_lem Empty e);
        refused = λ k. (
          λ e.
              ⊎_elim inl
              (λ alone.
              inr (
                alone.seven,
                record {
                  older = a;
                  newer = b;
                  held = refl;
                  position = alone.place;
                  shown = alone.shows;
                  not_finite = alone.unfit;
                },
              ))
              (refused_of f v k e),
          ⊎_elim (λ e. of_frame_lem (Refused k) e) (λ n. unfit_refused n.1 ∙ ap Refused (sym n.0)),
        );
      }

-- "its word, lateness and position are `frame`'s, to the bit"
pub same_frame : (pane : Pane) (t : ℕ) → SameFrame pane t
unfolding frame_at motion_at
same_frame Blank t = nothing_same Blank t refl refl
same_frame (One a) t = nothing_same (One a) t refl refl
same_frame (Two a b) t = two_same a b t

-- the velocity that is shown is the rate of the same cubic
velocity_with : (f : FrameAnswer Vector Refusal) (v : Vector) (m : Motion) → with_velocity f v ≡ Current m → m.velocity ≡ v
velocity_with (Current p) v m e = by (finite_vector v) e
  where
    by : (fin : Bool) → (if fin then Current (moving p v) otherwise Refused Refusal.NotFinite) ≡ Current m → m.velocity ≡ v
    by true e = let same : m ≡ moving p v = cc in ap (λ (x : Motion). x.velocity) same
    by false e = let z : ◌≡◌ {A = ℕ} 0 1 = cc in absurd (omega arith)
velocity_with (Late ms) v m e = let z : ◌≡◌ {A = ℕ} 0 1 = cc in absurd (omega arith)
velocity_with Empty v m e = let z : ◌≡◌ {A = ℕ} 0 1 = cc in absurd (omega arith)
velocity_with (Refused k) v m e = let z : ◌≡◌ {A = ℕ} 0 1 = cc in absurd (omega arith)

pub velocity_of : (a b : State) (t : ℕ) (m : Motion) → motion_at (Two a b) t ≡ Current m → m.velocity ≡ frame_velocity a b t
unfolding motion_at
velocity_of a b t m e = velocity_with (frame_at (Two a b) t) (frame_velocity a b t) m e

-- ---- at either end the frame has the position and velocity of that state, to the bit

module _ (a b : State) (rises : a.moment < b.moment) where
  pub at_older : finite_vector (position a) ≡ true → finite_vector (velocity a) ≡ true → motion_at (Two a b) a.moment ≡ Current (moving (position a) (velocity a))
  unfolding frame_velocity
  at_older p v = of_frame_lem a b a.moment (Current (position a)) (frames.at_older a b rises p) ∙ rw (eq-eqb a.moment a.moment refl, v)

  pub at_newer : finite_vector (position b) ≡ true → finite_vector (velocity b) ≡ true → motion_at (Two a b) b.moment ≡ Current (moving (position b) (velocity b))
  unfolding frame_velocity
  at_newer p v =
      of_frame_lem a b b.moment (Current (position b)) (frames.at_newer a b rises p)
      ∙ rw (ne_eqb b.moment a.moment (λ e. absurd (omega arith)), eq-eqb b.moment b.moment refl, v)
