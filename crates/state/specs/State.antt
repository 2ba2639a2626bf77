-- Document 01, "Setting, state, acceleration", and document 02, R-6, R-7, R-8 and R-9: the parts of a state and of a setting, and which
-- values are allowed.
use Rattle.std.specs.Prelude.{Bool, ◌&&◌, Float, ℕ}
use Rattle.std.specs.Float.Ieee.Scale.{finite}
use Rattle.base.specs.Choice.{if◌then◌otherwise◌, ◌=?◌}
use Rattle.base.specs.Floats.{◌⊕◌, ◌⊗◌, zero64}
use Rattle.base.specs.Limits.{is_dut}
use Rattle.hour.specs.Hour.{is_rule}
pub use Rattle.state_tests.specs.Allowed.{same_bits, used, coefficient_allowed, earth_allowed, is_body, looked_up}
use Rattle.state.specs.declared.Vector.{Vector}
use Rattle.state.specs.declared.State.{State}
use Rattle.state.specs.declared.Injection.{Injection}
use Rattle.state.specs.declared.Setting.{Setting}

abbrev pub nowhere : Vector
nowhere = record { x = zero64; y = zero64; z = zero64 }

abbrev pub position : State → Vector
position s = record { x = s.x; y = s.y; z = s.z }

abbrev pub velocity : State → Vector
velocity s = record { x = s.vx; y = s.vy; z = s.vz }

-- document 02, R-8: the acceleration stored with it
abbrev pub acceleration : State → Vector
acceleration s = record { x = s.ax; y = s.ay; z = s.az }

-- R-8: the input of an injection, without an acceleration
abbrev pub injection_at : ℕ → ℕ → Vector → Vector → Injection
injection_at t centre p v = record { moment = t; centre = centre; x = p.x; y = p.y; z = p.z; vx = v.x; vy = v.y; vz = v.z }

abbrev pub starting_position : Injection → Vector
starting_position i = record { x = i.x; y = i.y; z = i.z }

abbrev pub starting_velocity : Injection → Vector
starting_velocity i = record { x = i.vx; y = i.vy; z = i.vz }

-- an injection and its acceleration make a state
abbrev pub carrying : Injection → Vector → State
carrying i a =
    record {
      moment = i.moment;
      centre = i.centre;
      x = i.x;
      y = i.y;
      z = i.z;
      vx = i.vx;
      vy = i.vy;
      vz = i.vz;
      ax = a.x;
      ay = a.y;
      az = a.z;
    }

-- a state without its acceleration
abbrev pub bare : State → Injection
bare s = injection_at s.moment s.centre (position s) (velocity s)

unfoldable pub same_vector : Vector → Vector → Bool
same_vector u v = same_bits u.x v.x && same_bits u.y v.y && same_bits u.z v.z

-- "For a vector v: n = (x·x + y·y) + z·z"
unfoldable pub n : Vector → Float
n v = (v.x ⊗ v.x ⊕ v.y ⊗ v.y) ⊕ v.z ⊗ v.z

abbrev pub finite_vector : Vector → Bool
finite_vector v = finite v.x && finite v.y && finite v.z

abbrev pub finite_state : State → Bool
finite_state s = finite_vector (position s) && finite_vector (velocity s)

abbrev pub finite_injection : Injection → Bool
finite_injection i = finite_vector (starting_position i) && finite_vector (starting_velocity i)

unfoldable pub coefficients_allowed : Setting → Bool
coefficients_allowed s =
    earth_allowed s.earth
    && coefficient_allowed s.moon
    && coefficient_allowed s.sun
    && coefficient_allowed s.venus
    && coefficient_allowed s.mars
    && coefficient_allowed s.jupiter

-- document 02, R-7: "J, A or K negative or not finite is 4"
unfoldable pub terms_allowed : Setting → Bool
terms_allowed s = coefficient_allowed s.j && coefficient_allowed s.a && coefficient_allowed s.k

unfoldable pub setting_allowed : Setting → Bool
setting_allowed s = coefficients_allowed s && terms_allowed s && is_dut s.dut && is_rule s.rule

-- the coefficient of the body with that number, "1 to 6"; 0 for any other number
unfoldable pub coefficient_of : Setting → ℕ → Float
coefficient_of s number =
    if number =? 1 then s.earth otherwise
    if number =? 2 then s.moon otherwise
    if number =? 3 then s.sun otherwise
    if number =? 4 then s.venus otherwise
    if number =? 5 then s.mars otherwise
    if number =? 6 then s.jupiter otherwise zero64

-- "The centre must be a used body": document 02, R-6, "a centre outside 1 to 6 or unused is 14"
unfoldable pub centre_allowed : Setting → ℕ → Bool
centre_allowed s centre = used (coefficient_of s centre)
