-- Document 02, R-4: an injection as launch crews speak it.
use Rattle.base.specs.declared.Refusal.{Refusal}
use Rattle.std.specs.Prelude.{Bool, not, ◌&&◌, ℕ, ◌-◌, Result, Ok, Err}
use Rattle.std.specs.Float.Ieee.Scale.{finite}
use Rattle.base.specs.Choice.{if◌then◌otherwise◌, ◌<?◌, ◌≤?◌, ◌=?◌}
use Rattle.base.specs.Checks.{require, ◌before◌}
use Rattle.base.specs.Limits.{circle}
use Rattle.base.specs.Floats.{above0}
use Rattle.state.specs.declared.Injection.{Injection}
use Rattle.state.specs.declared.Vector.{Vector}
use Rattle.state.specs.State.{finite_injection}
use Rattle.hour.specs.Hour.{sidereal_answer}
use Rattle.sine.specs.Sine.{sine_cosine}
use Rattle.earth_rotation.specs.Rotation.{rotation}
unfoldable pub use Rattle.launch_turns.specs.Turns.{place_on, horizontal, tilt, swing, relative, carried, transposed, returned}
use Rattle.launch.specs.declared.Signed.{Signed}
use Rattle.launch.specs.declared.Sphere.{Sphere}

-- 90 degrees in parts
abbrev pub quarter : ℕ
quarter = 900_000_000_000

-- "latitude and path angle from -90 to 90 degrees with both ends, longitude and azimuth within one circle"
abbrev pub angles_allowed : Sphere → Bool
angles_allowed s =
    (s.latitude.parts ≤? quarter) && (s.longitude <? circle) && (s.path.parts ≤? quarter) && (s.azimuth <? circle)

-- "Sine and cosine of a negative angle are those of the angle plus a circle"; an angle of 0 parts is not negative
abbrev pub parts_of : Signed → ℕ
parts_of a = if a.below then (if a.parts =? 0 then 0 otherwise circle - a.parts) otherwise a.parts

-- Earth-fixed position and velocity of the injection
unfoldable pub place_of : Sphere → Vector
place_of s = place_on s.radius (sine_cosine (parts_of s.latitude)) (sine_cosine s.longitude)

unfoldable pub velocity_of : Sphere → Vector
velocity_of s =
    relative (sine_cosine (parts_of s.latitude)) (sine_cosine s.longitude)
    (horizontal s.speed (sine_cosine (parts_of s.path)) (sine_cosine s.azimuth))

-- "Hour angle and rate are the forward turn's"
unfoldable pub injected : Sphere → ℕ → ℕ → ℕ → Injection
injected s rule moment dut = returned moment (rotation rule moment dut) (place_of s) (velocity_of s)

-- "radius or speed not finite, radius not above 0"
abbrev pub sizes_allowed : Sphere → Bool
sizes_allowed s = finite s.radius && finite s.speed && above0 s.radius

-- "Refusals, after 4 and 3: angle out of range 12; radius or speed not finite, radius not above 0, or a non-finite result, 7"
unfoldable pub injection_answer : Sphere → ℕ → ℕ → ℕ → Result Injection Refusal
injection_answer s rule moment dut =
    require (angles_allowed s) Refusal.Angle
    before require (sizes_allowed s) Refusal.NotFinite
    before require (finite_injection (injected s rule moment dut)) Refusal.NotFinite
    before Ok (injected s rule moment dut)

-- an answer after the refusals of the hour angle, 4 (DUT, rule) and 3
abbrev pub after_hour : Result ℕ Refusal → Result Injection Refusal → Result Injection Refusal
after_hour (Ok parts) answer = answer
after_hour (Err number) answer = Err number

unfoldable pub sphere_answer : Sphere → ℕ → ℕ → ℕ → Result Injection Refusal
sphere_answer s rule moment dut = after_hour (sidereal_answer rule moment dut) (injection_answer s rule moment dut)
