-- What holds of both cases holds of the choice. Assumes nothing.
use mathlib.Core.Bool.{Bool, true, false}
use mathlib.Core.Path.{◌≡◌}
use Rattle.base.specs.Choice.{if◌then◌otherwise◌}

pub by_if : {A : Type 0} (p : A → Bool) (c : Bool) {a b : A} → p a ≡ true → p b ≡ true → p (if c then a otherwise b) ≡ true
by_if p true holds-a holds-b = holds-a
by_if p false holds-a holds-b = holds-b
