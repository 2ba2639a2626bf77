-- What follows if the common checks refuse nothing. Assumes nothing.
use mathlib.Core.Bool.{Bool, true}
use mathlib.Core.List.{List}
use mathlib.Core.Path.{◌≡◌}
use Prim.Native.Nat.{ℕ}
use Rattle.std.specs.Prelude.{Ok}
use Rattle.base.proofs.Checks.{first, holds}
use Rattle.base.specs.declared.Refusal.{Refusal}
use Rattle.state.specs.State.{setting_allowed}
use Rattle.state.specs.declared.Setting.{Setting}
use Rattle.book.specs.Passes.{passes}
use Rattle.state_checks.specs.Common.{common_checks}

pub record Passed (b : List ℕ) (setting : Setting) (centred timed finite : Bool) : Type 0 where
  pub book : passes b ≡ true
  pub set : setting_allowed setting ≡ true
  pub centre : centred ≡ true
  pub moment : timed ≡ true
  pub figures : finite ≡ true

module _ (b : List ℕ) (setting : Setting) (centred timed finite : Bool) where
  pub passed : common_checks b setting centred timed finite ≡ Ok tt → Passed b setting centred timed finite
  unfolding common_checks
  passed e =
      let p1 = first (passes b) Refusal.Book _ tt e in
      let p4 = first (setting_allowed setting) Refusal.Setting _ tt p1.1 in
      let p14 = first centred Refusal.Centre _ tt p4.1 in
      let p3 = first timed Refusal.Moment _ tt p14.1 in
      record { book = p1.0; set = p4.0; centre = p14.0; moment = p3.0; figures = holds finite Refusal.NotFinite p3.1 }

  -- and the converse
  pub passes_all : Passed b setting centred timed finite → common_checks b setting centred timed finite ≡ Ok tt
  unfolding common_checks
  passes_all p = rw (p.book, p.set, p.centre, p.moment, p.figures)
