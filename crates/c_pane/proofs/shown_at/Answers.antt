-- `c_pane::shown_at` meets its contract. Assumes nothing.
use Prim.Native.Nat.{ℕ}
use mathlib.Core.Bool.{Bool, true, false}
use mathlib.Core.Path.{◌≡◌, refl}
use borrow.Author.Tests.{eq-eqb, ne_eqb, lt-ltb}
use lib.Dec.{eqb}
use lib.ListN.{get_or}
use Rattle.base.specs.Choice.{if◌then◌otherwise◌}
use Rattle.state.specs.declared.State.{State}
use Rattle.pane_live.specs.declared.Pane.TheVariants.{Blank, One}
use Rattle.pane_live.specs.declared.FrameAnswer.TheVariants as frame
use Rattle.pane_live.specs.Pane.{frame_at}
use Rattle.c_pane.specs.Lent.{older_of}
use Rattle.c_pane.proofs.shown_at.Goals as goal

-- one state or none shows nothing
nothing-shown : (b : Bool) (a : State) (t : ℕ) → frame.Empty ≡ frame_at (if b then One a otherwise Blank) t
unfolding frame_at
nothing-shown true a t = refl
nothing-shown false a t = refl

pub returns-then-newest-moment : goal.returns-then-newest-moment
unfolding frame_at
returns-then-newest-moment c = rw (eq-eqb _ 2 c.if-n-eq2.true, lt-ltb _ _ c.if-newest-moment.true)

pub returns : goal.returns
returns c = let x = c.args in
    rw (ne_eqb _ 2 c.if-n-eq2.false) (nothing-shown (eqb (get_or x.n.now 0 0) 1) (older_of x.n.now x.c.now) x.moment)
