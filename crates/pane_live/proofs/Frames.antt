-- What a frame shows. Assumes nothing.
use Rattle.base.specs.declared.Refusal.{Refusal}
use Rattle.std.proofs.Common.{◌≡◌, ℕ, ◌-◌, ◌<◌, ◌≤◌, Bool, true, false, sym, refl, ap, ◌∙◌, arith, ltb-false, le-ltb, lt-ltb, eq-eqb, ne_eqb}
use Rattle.base.specs.Choice.{if◌then◌otherwise◌, ◌<?◌}
use Rattle.state.specs.State.{position, finite_vector}
use Rattle.state.specs.declared.State.{State}
use Rattle.state.specs.declared.Vector.{Vector}
use Rattle.pane_live.specs.Pane.{between, figure, shown, frame_between, frame_at}
use Rattle.pane_live.specs.Laws.{Risen, InOrder, Shown}
use Rattle.pane_live.specs.declared.Pane.{Pane}
use Rattle.pane_live.specs.declared.Pane.TheVariants.{Blank, One, Two}
use Rattle.pane_live.specs.declared.FrameAnswer.{FrameAnswer}
use Rattle.pane_live.specs.declared.FrameAnswer.TheVariants as frame

shown_once : (p q : Vector) → shown p ≡ frame.Current q → p ≡ q
shown_once p q = go (finite_vector p)
  where
    go : (fin : Bool) → (if fin then frame.Current p otherwise frame.Refused Refusal.NotFinite) ≡ frame.Current q → p ≡ q
    go true e = cc
    go false e = let z : ◌≡◌ {A = ℕ} 0 1 = cc in absurd (omega arith)

-- a current frame of two states lies between them, and shows their figure
pub between_them : (a b : State) (t : ℕ) (p : Vector) → frame_at (Two a b) t ≡ frame.Current p → (a.moment ≤ t) × (t ≤ b.moment) × (p ≡ figure a b t)
unfolding frame_at
between_them a b t p e = go (b.moment <? t) refl (t <? a.moment) refl e
  where
    go : (late : Bool) → (b.moment <? t) ≡ late → (early : Bool) → (t <? a.moment) ≡ early
        → (if late then frame.Late (t - b.moment) otherwise if early then frame.Empty otherwise shown (figure a b t)) ≡ frame.Current p
        → (a.moment ≤ t) × (t ≤ b.moment) × (p ≡ figure a b t)
    go true l early e c = let z : ◌≡◌ {A = ℕ} 0 1 = cc in absurd (omega arith)
    go false l true e c = let z : ◌≡◌ {A = ℕ} 0 1 = cc in absurd (omega arith)
    go false l false e c = (ltb-false t a.moment e, ltb-false b.moment t l, sym (shown_once (figure a b t) p c))

-- "what is shown as current lies between two reached states": never past the newer one
pub current : (pane : Pane) (t : ℕ) (p : Vector) → InOrder pane → frame_at pane t ≡ frame.Current p → Shown pane t p
unfolding frame_at
current Blank t p order e = let z : ◌≡◌ {A = ℕ} 0 1 = cc in absurd (omega arith)
current (One a) t p order e = let z : ◌≡◌ {A = ℕ} 0 1 = cc in absurd (omega arith)
current (Two a b) t p order e =
    let w = between_them a b t p e in
    record { older = a; newer = b; held = refl; from = w.0; until = w.1; centre = order.centre; is = w.2 }

module _ (a b : State) (t : ℕ) where
  -- "a frame past the newer state": late by the time that has gone, and no position
  pub late : b.moment < t → frame_at (Two a b) t ≡ frame.Late (t - b.moment)
  unfolding frame_at
  late past = rw (lt-ltb b.moment t past)

  -- before the older
  pub early : t < a.moment → t ≤ b.moment → frame_at (Two a b) t ≡ frame.Empty
  unfolding frame_at
  early before within = rw (le-ltb b.moment t within, lt-ltb t a.moment before)

-- "at either end it is that state's position, to the bit"
pub at_older : (a b : State) → a.moment < b.moment → finite_vector (position a) ≡ true → frame_at (Two a b) a.moment ≡ frame.Current (position a)
unfolding frame_at figure
at_older a b rises fin =
    rw (le-ltb b.moment a.moment (omega arith), le-ltb a.moment a.moment (omega arith), eq-eqb a.moment a.moment refl, fin)

pub at_newer : (a b : State) → a.moment < b.moment → finite_vector (position b) ≡ true → frame_at (Two a b) b.moment ≡ frame.Current (position b)
unfolding frame_at figure
at_newer a b rises fin =
    rw (le-ltb b.moment b.moment (omega arith), le-ltb b.moment a.moment (omega arith))
    (rw (ne_eqb b.moment a.moment (λ e. absurd (omega arith)), eq-eqb b.moment b.moment refl, fin))
