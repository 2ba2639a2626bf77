-- The layout of an injection as launch crews speak it and of Earth-fixed coordinates in the caller's memory, and what such a call writes
-- there. Every array has the length that its type says, so reading an element never gives the defaults nan and 0.
use Rattle.base.specs.declared.Refusal.{Refusal}
use Rattle.state.specs.declared.Injection.{Injection}
use Rattle.std.specs.Prelude.{ℕ, List, [], ◌∷◌, get_or, Float, Result}
use Rattle.std.specs.Float.{nan}
use Rattle.earth_fixed.specs.declared.EarthFixed.{EarthFixed}
use Rattle.launch.specs.Signed.{signed_of}
use Rattle.launch.specs.declared.Sphere.{Sphere}
use Rattle.c_answer.specs.Handed.{written}
use Rattle.c_state.specs.Groups.{start_in}

-- read: radius and speed; latitude, longitude, path angle and azimuth
abbrev pub sphere_of : List Float → List ℕ → Sphere
sphere_of sizes angles =
    record {
      radius = get_or sizes 0 nan;
      latitude = signed_of (get_or angles 0 0);
      longitude = get_or angles 1 0;
      speed = get_or sizes 1 nan;
      path = signed_of (get_or angles 2 0);
      azimuth = get_or angles 3 0;
    }

abbrev pub fixed_in : EarthFixed → List Float
fixed_in f = f.x ∷ f.y ∷ f.z ∷ f.vx ∷ f.vy ∷ f.vz ∷ []

abbrev pub of_sphere : Result Injection Refusal → Result (List Float) Refusal
of_sphere answer = written start_in answer

abbrev pub of_fixed : Result EarthFixed Refusal → Result (List Float) Refusal
of_fixed answer = written fixed_in answer
