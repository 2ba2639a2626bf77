-- The layout of a conic in the caller's memory, and what its call writes there.
use Rattle.base.specs.declared.Refusal.{Refusal}
use Rattle.std.specs.Prelude.{ℕ, List, [], ◌∷◌, Float, Result}
use Rattle.conic.specs.declared.Conic.{Conic}
use Rattle.conic.specs.declared.Conic.TheVariants.{Ellipse, Hyperbola}
use Rattle.conic.specs.declared.CentredConic.{CentredConic}
use Rattle.c_answer.specs.Handed.{written}

-- written: the number of the centre of a conic, then its kind, 1 for an ellipse and 2 for a hyperbola
abbrev pub kind_of : Conic → ℕ
kind_of (Ellipse a e p q far) = 1
kind_of (Hyperbola a e p q v) = 2

abbrev pub names_in : CentredConic → List ℕ
names_in c = c.centre ∷ kind_of c.conic ∷ []

-- written: its five figures, the last of them the far distance or the root of c3
abbrev pub figures_of : Conic → List Float
figures_of (Ellipse a e p q far) = a ∷ e ∷ p ∷ q ∷ far ∷ []
figures_of (Hyperbola a e p q v) = a ∷ e ∷ p ∷ q ∷ v ∷ []

abbrev pub figures_in : CentredConic → List Float
figures_in c = figures_of c.conic

-- both places of a conic, as one value
pub record Both : Type 0 where
  pub names : List ℕ
  pub figures : List Float

abbrev pub both_in : List ℕ → List Float → Both
both_in names figures = record { names = names; figures = figures }

-- a conic is written in two places
abbrev pub of_conic : Result CentredConic Refusal → Result Both Refusal
of_conic answer = written (λ c. both_in (names_in c) (figures_in c)) answer
