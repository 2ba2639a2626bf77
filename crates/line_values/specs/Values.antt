-- The numbers of a call's fields as the values that the crates below take. There are always thirty numbers, so reading one below that place
-- never gives the default 0.
use Rattle.std.specs.Prelude.{ℕ, ◌+◌, ◌%◌, List, get_or, Float}
use Rattle.std.specs.Float.{binary64}
use Rattle.std.specs.Float.Ieee.{of_bits}
use Rattle.base.specs.Floats.{zero64}
use Rattle.state.specs.State.{carrying}
use Rattle.state.specs.declared.Vector.{Vector}
use Rattle.state.specs.declared.Injection.{Injection}
use Rattle.state.specs.declared.State.{State}
use Rattle.state.specs.declared.Setting.{Setting}
use Rattle.gravity.specs.declared.Guesses.{Guesses}
use Rattle.gravity.specs.Acceleration.{nowhere}
use Rattle.launch.specs.Signed.{signed_of}
use Rattle.launch.specs.declared.Sphere.{Sphere}

abbrev pub number : List ℕ → ℕ → ℕ
number v i = get_or v i 0

-- a float is kept as its bits
abbrev pub nth_float : List ℕ → ℕ → Float
nth_float v i = of_bits binary64 (number v i)

abbrev pub vector_from : List ℕ → ℕ → Vector
vector_from v i = record { x = nth_float v i; y = nth_float v (i + 1); z = nth_float v (i + 2) }

-- X Y Z VX VY VZ
abbrev pub injection_from : List ℕ → ℕ → ℕ → ℕ → Injection
injection_from v moment centre i =
    let p = vector_from v i in
    let w = vector_from v (i + 3) in
    record { moment = moment; centre = centre; x = p.x; y = p.y; z = p.z; vx = w.x; vy = w.y; vz = w.z }

-- STATE = MOMENT CENTRE X Y Z VX VY VZ AX AY AZ
abbrev pub state_from : List ℕ → ℕ → State
state_from v i = carrying (injection_from v (number v i) (number v (i + 1)) (i + 2)) (vector_from v (i + 8))

-- for a call that does not read the acceleration: about the Earth, with acceleration zero
abbrev pub unkept_from : List ℕ → ℕ → ℕ → State
unkept_from v moment i = carrying (injection_from v moment 1 i) nowhere

-- a number of 32 bits; the reader has checked its size
abbrev pub narrow : ℕ → ℕ
narrow number = number % 0x1_0000_0000

-- C1 .. C6 DUT, with J, A, K and the rule
abbrev pub setting_with : List ℕ → Float → Float → Float → ℕ → Setting
setting_with v j a k rule =
    record {
      earth = nth_float v 0;
      moon = nth_float v 1;
      sun = nth_float v 2;
      venus = nth_float v 3;
      mars = nth_float v 4;
      jupiter = nth_float v 5;
      dut = narrow (number v 6);
      j = j;
      a = a;
      k = k;
      rule = rule;
    }

-- the setting of an old line is C1 .. C6 DUT: "J, A and K zero, rule 0"
abbrev pub old_setting : List ℕ → Setting
old_setting v = setting_with v zero64 zero64 zero64 0

-- SETTING = C1 .. C6 DUT J A K RULE
abbrev pub setting_from : List ℕ → Setting
setting_from v = setting_with v (nth_float v 7) (nth_float v 8) (nth_float v 9) (number v 10)

-- G2 .. G6
abbrev pub guesses_from : List ℕ → ℕ → Guesses
guesses_from v i =
    record { moon = number v i; sun = number v (i + 1); venus = number v (i + 2); mars = number v (i + 3); jupiter = number v (i + 4) }

-- RULE DUT MOMENT RADIUS LAT LON SPEED PATH AZ
abbrev pub sphere_from : List ℕ → Sphere
sphere_from v =
    record {
      radius = nth_float v 3;
      latitude = signed_of (number v 4);
      longitude = number v 5;
      speed = nth_float v 6;
      path = signed_of (number v 7);
      azimuth = number v 8;
    }
