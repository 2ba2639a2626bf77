-- The refusals that the common checks can give: what holds of 1, 4, 14, 3 and 7, and of the answer after the checks, holds of the call.
-- Assumes nothing.
use mathlib.Core.Bool.{Bool, true, false, not}
use mathlib.Core.List.{List}
use mathlib.Core.Path.{◌≡◌, refl}
use Prim.Native.Nat.{ℕ}
use Rattle.base.specs.Choice.{if◌then◌otherwise◌}
use Rattle.base.specs.Checks.{Checked, require, ◌before◌, checked}
use Rattle.base.specs.declared.Refusal.{Refusal}
use Rattle.base.proofs.Checks.{first_meets, last_meets}
use Rattle.state.specs.State.{setting_allowed}
use Rattle.state.specs.declared.Setting.{Setting}
use Rattle.book.specs.Passes.{passes}
use Rattle.state_checks.specs.Common.{common_checks}

pub common_meets : {A : Type 0} (p : A → Bool) (refused : Refusal → A) (x : A) → p (refused Refusal.Book) ≡ true → p (refused Refusal.Setting) ≡ true → p (refused Refusal.Centre) ≡ true
    → p (refused Refusal.Moment) ≡ true → p (refused Refusal.NotFinite) ≡ true → p x ≡ true → (b : List ℕ) (setting : Setting) (centred timed finite : Bool)
    → p (checked (common_checks b setting centred timed finite) x refused) ≡ true
unfolding common_checks
common_meets p refused x one four fourteen three seven behind b setting centred timed finite =
    let check = first_meets p refused x in
    check (passes b) Refusal.Book _ one
    (check (setting_allowed setting) Refusal.Setting _ four (check centred Refusal.Centre _ fourteen (check timed Refusal.Moment _ three (last_meets p refused x finite Refusal.NotFinite seven behind))))

-- the answer of a call, check by check
pub check_by_check : {A : Type 0} (refused : Refusal → A) (x : A) (b : List ℕ) (setting : Setting) (centred timed finite : Bool)
    → checked (common_checks b setting centred timed finite) x refused
    ≡ (if not (passes b) then refused Refusal.Book otherwise
    if not (setting_allowed setting) then refused Refusal.Setting otherwise
    if not centred then refused Refusal.Centre otherwise if not timed then refused Refusal.Moment otherwise if not finite then refused Refusal.NotFinite otherwise x)
unfolding common_checks
check_by_check refused x b setting centred timed finite = go (passes b) (setting_allowed setting) centred timed finite
  where
    go : (p s c t f : Bool)
        → checked (require p Refusal.Book before require s Refusal.Setting before require c Refusal.Centre before require t Refusal.Moment before require f Refusal.NotFinite) x refused
        ≡ (if not p then refused Refusal.Book otherwise if not s then refused Refusal.Setting otherwise if not c then refused Refusal.Centre otherwise if not t then refused Refusal.Moment otherwise if not f then refused Refusal.NotFinite otherwise x)
    go false s c t f = refl
    go true false c t f = refl
    go true true false t f = refl
    go true true true false f = refl
    go true true true true false = refl
    go true true true true true = refl
