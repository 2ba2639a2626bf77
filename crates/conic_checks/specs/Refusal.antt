-- Document 01, "Earth-fixed turn and conic": the refusals of a conic's figures.
use Rattle.std.specs.Prelude.{not, Float}
use Rattle.std.specs.Float.Ieee.{eq}
use Rattle.std.specs.Float.Ieee.Scale.{finite}
use Rattle.base.specs.Floats.{zero64}
use Rattle.base.specs.Checks.{Checked, require, ◌before◌}
use Rattle.base.specs.declared.Refusal.{Refusal}
use Rattle.conic_checks.specs.declared.Orbit.{Orbit}

-- a figure that may be zero
unfoldable pub fit : Float → Checked
fit x = require (finite x) Refusal.NotFinite

-- a figure that may not be zero: its own refusal if it is
unfoldable pub fit_nonzero : Float → Refusal → Checked
fit_nonzero x own = fit x before require (not (eq x zero64)) own

-- "in written order ..: one not finite or n zero 7, c3 zero 9, n(C) zero 10"
unfoldable pub orbit_checks : Orbit → Checked
orbit_checks o =
    fit_nonzero o.n Refusal.NotFinite
    before fit o.v2
    before fit_nonzero o.c3 Refusal.Parabola
    before fit_nonzero o.nc Refusal.StraightLine
    before fit o.p
    before fit o.e2
    before fit o.e
    before fit o.a
    before fit o.q
    before fit o.last
