-- Laws of checks in an order. Assumes nothing.
use mathlib.Core.Bool.{Bool, true, false}
use mathlib.Core.Path.{◌≡◌, refl, ap}
use Rattle.std.specs.Result.{IsErrAnd}
use Rattle.std.specs.Prelude.{Result, Ok, Err}
use Rattle.base.specs.Checks.{Checked, require, ◌before◌, checked}
use Rattle.base.specs.declared.Refusal.{Refusal}

-- a check that refuses nothing holds
pub holds : (ok : Bool) (k : Refusal) → require ok k ≡ Ok tt → ok ≡ true
holds true k e = refl
holds false k e = cc

-- if checks and what comes after them refuse nothing, neither does
pub first_of : {A : Type 0} (checks : Checked) (later : Result A Refusal) (x : A) → (checks before later) ≡ Ok x → (checks ≡ Ok tt) × (later ≡ Ok x)
first_of (Ok tt) later x e = (refl, e)
first_of (Err k) later x e = cc

pub first : {A : Type 0} (ok : Bool) (k : Refusal) (later : Result A Refusal) (x : A) → (require ok k before later) ≡ Ok x → (ok ≡ true) × (later ≡ Ok x)
first true k later x e = (refl, e)
first false k later x e = cc

-- what holds of the refusal of a check, and of the later ones, holds of all
pub first_meets : {A : Type 0} (p : A → Bool) (refused : Refusal → A) (x : A) (good : Bool) (k : Refusal) (later : Checked) → p (refused k) ≡ true
    → p (checked later x refused) ≡ true → p (checked (require good k before later) x refused) ≡ true
first_meets p refused x true k later number rest = rest
first_meets p refused x false k later number rest = number

pub last_meets : {A : Type 0} (p : A → Bool) (refused : Refusal → A) (x : A) (good : Bool) (k : Refusal) → p (refused k) ≡ true
    → p x ≡ true → p (checked (require good k) x refused) ≡ true
last_meets p refused x true k number rest = rest
last_meets p refused x false k number rest = number

-- what `?` returns for a refusal
pub turned_away : {A : Type 0} (r : Result A Refusal) (k : Refusal) → IsErrAnd r (λ (e : Refusal). e ≡ k) → r ≡ Err k
turned_away (Ok x) k h = absurd h
turned_away (Err e) k h = ap Err h
