-- Document 01, "Earth-fixed turn and conic", and document 02, R-2, R-6 and R-9: a state in coordinates that turn with the Earth.
use Rattle.base.specs.declared.Refusal.{Refusal}
use Rattle.std.specs.Prelude.{Bool, ◌&&◌, ℕ, Result, Ok, Err}
use Rattle.base.specs.Choice.{◌=?◌}
use Rattle.base.specs.Checks.{require, ◌before◌}
use Rattle.base.specs.Floats.{◌⊕◌, ◌⊖◌, ◌⊗◌}
use Rattle.base.specs.Limits.{is_dut}
use Rattle.state.specs.declared.State.{State}
use Rattle.state.specs.State.{position, velocity, finite_vector, finite_state}
use Rattle.hour.specs.Hour.{is_rule, sidereal_answer}
use Rattle.earth_rotation.specs.Rotation.{times, Rotation, rotation}
use Rattle.earth_fixed.specs.declared.EarthFixed.{EarthFixed}

-- "Velocity x gains w·y and velocity y loses w·x, with x, y the turned position" (the position after the product of the tables)
unfoldable pub turned : Rotation → State → EarthFixed
turned by state =
    let p = times by.table (position state) in
    let v = times by.table (velocity state) in
    record {
      x = p.x;
      y = p.y;
      z = p.z;
      vx = v.x ⊕ by.w ⊗ p.y;
      vy = v.y ⊖ by.w ⊗ p.x;
      vz = v.z;
    }

abbrev pub finite_fixed : EarthFixed → Bool
finite_fixed f =
    finite_vector (record { x = f.x; y = f.y; z = f.z }) && finite_vector (record { x = f.vx; y = f.vy; z = f.vz })

-- "(state, then result)"
unfoldable pub finite_answer : ℕ → ℕ → State → Result EarthFixed Refusal
finite_answer rule dut state =
    let fixed = turned (rotation rule state.moment dut) state in
    require (finite_state state) Refusal.NotFinite
    before require (finite_fixed fixed) Refusal.NotFinite
    before Ok fixed

-- an answer after the refusals of the hour angle
abbrev pub after_hour : Result ℕ Refusal → Result EarthFixed Refusal → Result EarthFixed Refusal
after_hour (Ok parts) answer = answer
after_hour (Err number) answer = Err number

-- "4 (DUT), 3", and 4 for a rule other than the two, "then 7 (state, then result)". R-6: "Earth-fixed takes centre 1 alone, else 14",
-- directly after 4. After that the hour angle can only refuse with 3.
unfoldable pub fixed_answer : ℕ → ℕ → State → Result EarthFixed Refusal
fixed_answer rule dut state =
    require (is_dut dut) Refusal.Setting
    before require (is_rule rule) Refusal.Setting
    before require (state.centre =? 1) Refusal.Centre
    before after_hour (sidereal_answer rule state.moment dut) (finite_answer rule dut state)
