-- How "the same, unless there is a gap" is carried through a function and past a check. Assumes nothing.
use mathlib.Core.Bool.{Bool, true, false}
use mathlib.Core.Logic.{inl, inr}
use mathlib.Core.Path.{◌≡◌, refl, ap, ◌∙◌}
use Rattle.base.specs.Choice.{if◌then◌otherwise◌}
use Rattle.base.specs.Checks.{Checked, ◌before◌}
use Rattle.base.specs.declared.Refusal.{Refusal}
use Rattle.std.specs.Prelude.{Result, Ok, Err}
use Rattle.book_laws.specs.Fuller.{Unless}

pub carried : {A B : Type 0} (f : A → B) (gap x y : A) (gap' : B) → f gap ≡ gap' → Unless gap x y → Unless gap' (f x) (f y)
carried f gap x y gap' e (inl is) = inl (ap f is ∙ e)
carried f gap x y gap' e (inr is) = inr (ap f is)

-- a check that refuses in both cases with the same refusal
pub checked : {A : Type 0} (test : Bool) (a gap x y : A) → (test ≡ false → Unless gap x y) → Unless gap (if test then a otherwise x) (if test then a otherwise y)
checked true a gap x y u = inr refl
checked false a gap x y u = u refl

pub passed : {A : Type 0} (test : Bool) (a gap x y : A) → (test ≡ true → Unless gap x y) → Unless gap (if test then x otherwise a) (if test then y otherwise a)
passed true a gap x y u = u refl
passed false a gap x y u = inr refl

-- checks that refuse both calls alike
pub past : {A : Type 0} (checks : Checked) (gap x y : Result A Refusal) → (checks ≡ Ok tt → Unless gap x y) → Unless gap (checks before x) (checks before y)
past (Ok tt) gap x y u = u refl
past (Err k) gap x y u = inr refl
