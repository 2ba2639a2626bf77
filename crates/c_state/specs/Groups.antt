-- The layout of a setting, a vector, an injection and a state in the caller's memory. Every array has the length that its type says, so
-- reading an element never gives the default nan.
use Rattle.std.specs.Prelude.{ℕ, List, [], ◌∷◌, get_or, Float}
use Rattle.std.specs.Float.{nan}
use Rattle.base.specs.Floats.{zero64}
use Rattle.state.specs.State.{nowhere, carrying}
use Rattle.state.specs.declared.Vector.{Vector}
use Rattle.state.specs.declared.State.{State}
use Rattle.state.specs.declared.Injection.{Injection}
use Rattle.state.specs.declared.Setting.{Setting}

-- read: six coefficients "by body number from 1", (02, R-7) J, A and K, together with DUT and (02, R-9) the rule
abbrev pub setting_of : List Float → List Float → ℕ → ℕ → Setting
setting_of m extras dut rule =
    record {
      earth = get_or m 0 nan;
      moon = get_or m 1 nan;
      sun = get_or m 2 nan;
      venus = get_or m 3 nan;
      mars = get_or m 4 nan;
      jupiter = get_or m 5 nan;
      dut = dut;
      j = get_or extras 0 nan;
      a = get_or extras 1 nan;
      k = get_or extras 2 nan;
      rule = rule;
    }

-- J, A and K for a call that takes none
abbrev pub no_extras : List Float
no_extras = zero64 ∷ zero64 ∷ zero64 ∷ []

abbrev pub vector_of : List Float → Vector
vector_of v = record { x = get_or v 0 nan; y = get_or v 1 nan; z = get_or v 2 nan }

-- read: the coordinates of an injection are its position and then its velocity; its moment and (02, R-6) its centre are given separately
abbrev pub injection_of : ℕ → ℕ → List Float → Injection
injection_of moment centre c =
    record {
      moment = moment;
      centre = centre;
      x = get_or c 0 nan;
      y = get_or c 1 nan;
      z = get_or c 2 nan;
      vx = get_or c 3 nan;
      vy = get_or c 4 nan;
      vz = get_or c 5 nan;
    }

-- read: (02, R-8) those of a state have its acceleration after them
abbrev pub state_of : ℕ → ℕ → List Float → State
state_of moment centre c =
    carrying (injection_of moment centre c) (record { x = get_or c 6 nan; y = get_or c 7 nan; z = get_or c 8 nan })

-- read: for a call that does not read the acceleration, it is zero
abbrev pub unkept_of : ℕ → ℕ → List Float → State
unkept_of moment centre c = carrying (injection_of moment centre c) nowhere

-- written
abbrev pub vector_in : Vector → List Float
vector_in v = v.x ∷ v.y ∷ v.z ∷ []

abbrev pub start_in : Injection → List Float
start_in i = i.x ∷ i.y ∷ i.z ∷ i.vx ∷ i.vy ∷ i.vz ∷ []

-- written: the coordinates of a state for an old call, which has no place for the acceleration, and all of them
abbrev pub coordinates_in : State → List Float
coordinates_in s = s.x ∷ s.y ∷ s.z ∷ s.vx ∷ s.vy ∷ s.vz ∷ []

abbrev pub whole_in : State → List Float
whole_in s = s.x ∷ s.y ∷ s.z ∷ s.vx ∷ s.vy ∷ s.vz ∷ s.ax ∷ s.ay ∷ s.az ∷ []
