-- Document 01, "Earth-fixed turn and conic", and document 02, R-6: the figures of the conic for a centre coefficient m, and their refusals.
use Rattle.base.specs.declared.Refusal.{Refusal}
use Rattle.conic.specs.declared.CentredConic.{CentredConic}
use Rattle.std.specs.Prelude.{not, ◌&&◌, ℕ, Float, Result, Ok, Err}
use Rattle.std.specs.Float.Ieee.Scale.{finite}
use Rattle.base.specs.Choice.{if◌then◌otherwise◌}
use Rattle.base.specs.Checks.{◌before◌}
use Rattle.base.specs.Floats.{above0, below0}
use Rattle.state.specs.declared.State.{State}
use Rattle.state.specs.State.{finite_state, is_body}
use Rattle.conic.specs.declared.Conic.{Conic}
use Rattle.conic.specs.declared.Conic.TheVariants.{Ellipse, Hyperbola}
use Rattle.conic_checks.specs.declared.Orbit.{Orbit}
unfoldable pub use Rattle.conic_checks.specs.Refusal.{fit, fit_nonzero, orbit_checks}
unfoldable pub use Rattle.conic_formulas.specs.Orbit.{cross, eccentricity, last_figure, orbit}

-- "an ellipse when c3 is below 0, a hyperbola when above"
unfoldable pub conic_of : Orbit → Conic
conic_of o =
    if below0 o.c3 then Ellipse o.a o.e o.p o.q o.last otherwise
    Hyperbola o.a o.e o.p o.q o.last

-- "A conic answer names its centre and holds one kind"; R-6: the state's own centre
unfoldable pub orbit_answer : ℕ → Orbit → Result CentredConic Refusal
orbit_answer centre o = orbit_checks o before Ok (record { centre = centre; conic = conic_of o })

-- "4 (m not finite or not above 0), 7 (state), then" the figures; R-6: a centre outside 1 to 6 is 14, "directly after 4"
unfoldable pub figures_about : Float → State → Result CentredConic Refusal
figures_about m state =
    if not (is_body state.centre) then Err Refusal.Centre otherwise
    if not (finite_state state) then Err Refusal.NotFinite otherwise
    orbit_answer state.centre (orbit m state)

unfoldable pub conic_answer : Float → State → Result CentredConic Refusal
conic_answer m state = if not (finite m && above0 m) then Err Refusal.Setting otherwise figures_about m state
