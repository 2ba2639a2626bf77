-- Document 01's figures of the conic that are not in the table of proved cases (crates/cases): "Conic, m 8, position (2, 0, 0): .. (2, 0, 0) gives 10; with m 4 it gives 9".
-- The moment plays no part. Assumes nothing.
use mathlib.Core.Path.{◌≡◌, refl}
use Prim.Native.Nat.{ℕ}
use lib.Ieee.{neg, add, sub, mul, div, lt, eq, of_bits, of_int}
use Rattle.base.specs.declared.Refusal.{Refusal}
use Rattle.std.specs.Prelude.{Err}
use Rattle.base.specs.Floats.{whole}
use Rattle.state.specs.declared.Vector.{Vector}
use Rattle.state.specs.declared.State.{State}
use Rattle.state.specs.State.{n}
use Rattle.root.specs.Root.{root_of}
use Rattle.conic.specs.Conic.{cross, eccentricity, last_figure, orbit, fit, fit_nonzero, orbit_checks, conic_of, orbit_answer, figures_about, conic_answer}

-- position and velocity (2, 0, 0), at a moment t, with any acceleration stored: a straight fall
abbrev straight : ℕ → Vector → State
straight t a = record { moment = t; centre = 1; x = whole 2; y = whole 0; z = whole 0; vx = whole 2; vy = whole 0; vz = whole 0; ax = a.x; ay = a.y; az = a.z }

pub no_momentum : (t : ℕ) (a : Vector) → conic_answer (whole 8) (straight t a) ≡ Err Refusal.StraightLine
unfolding conic_answer figures_about orbit_answer orbit orbit_checks conic_of fit fit_nonzero last_figure eccentricity cross n root_of neg add sub mul div lt eq of_bits of_int
no_momentum t a = refl

pub no_energy : (t : ℕ) (a : Vector) → conic_answer (whole 4) (straight t a) ≡ Err Refusal.Parabola
unfolding conic_answer figures_about orbit_answer orbit orbit_checks conic_of fit fit_nonzero last_figure eccentricity cross n root_of neg add sub mul div lt eq of_bits of_int
no_energy t a = refl
