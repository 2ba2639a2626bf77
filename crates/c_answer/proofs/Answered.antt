-- What follows from the returned number. Assumes nothing.
use mathlib.Core.Path.{◌≡◌, refl}
use Rattle.std.specs.Prelude.{Result, Ok, Err}
use Rattle.base.specs.Refusals.{number_of}
use Rattle.base.specs.declared.Refusal.{Refusal}
use Rattle.c_answer.specs.Handed.{answered}

module _ {A : Type 0} (before : A) where
  -- 0 comes with the values
  pub accepted_written : (values : A) → (answered before (Ok values)).memory ≡ values
  accepted_written values = refl

  -- the call returns the number of its refusal
  pub refused_told : (k : Refusal) → (answered before (Err k)).returned ≡ number_of k
  refused_told k = refl

  -- if a call does not return 0, the memory is unchanged
  pub unwritten : (answer : Result A Refusal) → ((answered before answer).returned ≡ 0 → ⊥) → (answered before answer).memory ≡ before
  unwritten (Ok values) other = absurd (other refl)
  unwritten (Err k) other = refl
