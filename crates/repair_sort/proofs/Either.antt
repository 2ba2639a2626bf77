-- A choice by a test, proved for both answers. Assumes nothing.
use mathlib.Core.Bool.{Bool, true, false}
use mathlib.Core.Path.{◌≡◌, refl}
use Rattle.base.specs.Choice.{if◌then◌otherwise◌}

pub either_way {ℓ} : {A : Type ℓ} (P : A → Type 0) (test : Bool) {a b : A} → (test ≡ true → P a) → (test ≡ false → P b) → P (if test then a otherwise b)
either_way P true p q = p refl
either_way P false p q = q refl
