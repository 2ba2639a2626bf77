-- Document 02, R-14, in the desk's words: what the pane never does, and what always holds.
use Rattle.std.specs.Prelude.{◌≡◌, ℕ, ◌<◌, ◌≤◌, List, [], ◌∷◌}
use Rattle.state.specs.declared.State.{State}
use Rattle.state.specs.declared.Vector.{Vector}
use Rattle.run.specs.declared.RunAnswer.{RunAnswer}
use Rattle.pane_live.specs.Pane.{take, feed, after, figure}
use Rattle.pane_live.specs.declared.Pane.{Pane}
use Rattle.pane_live.specs.declared.Pane.TheVariants.{Blank, One, Two}

-- the newer state is later than the older, and both have the same centre
pub record Risen (a b : State) : Type 0 where
  pub later : a.moment < b.moment
  pub centre : b.centre ≡ a.centre

abbrev pub InOrder : Pane → Type 0
InOrder Blank = Unit {0}
InOrder (One a) = Unit {0}
InOrder (Two a b) = Risen a b

-- a position shown at t lies between two states in the pane, of one centre, and is the figure of R-14 between them
pub record Shown (pane : Pane) (t : ℕ) (p : Vector) : Type 0 where
  pub older : State
  pub newer : State
  pub held : pane ≡ Two older newer
  pub from : older.moment ≤ t
  pub until : t ≤ newer.moment
  pub centre : newer.centre ≡ older.centre
  pub is : p ≡ figure older newer t

-- the pane after the answers of runs, one after the other
abbrev pub fed : {R : Type 0} → Pane → List (RunAnswer R) → Pane
fed pane [] = pane
fed pane (r ∷ rs) = fed (after pane (feed pane r)) rs
