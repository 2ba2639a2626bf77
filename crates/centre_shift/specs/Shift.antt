-- Document 02, R-6: a state's position and velocity about another centre.
use Rattle.std.specs.Prelude.{ℕ}
use Rattle.base.specs.Floats.{◌⊖◌}
use Rattle.state.specs.State.{position, velocity, injection_at}
use Rattle.state.specs.declared.Vector.{Vector}
use Rattle.state.specs.declared.State.{State}
use Rattle.state.specs.declared.Injection.{Injection}
use Rattle.book_series.specs.declared.Place.{Place}
use Rattle.book_series.specs.declared.Velocity.{Velocity}
use Rattle.book.specs.declared.Motion.{Motion}
use Rattle.gravity_pull.specs.Pull.{minus}

-- "the new centre's position and velocity relative to the old"
abbrev pub offset : Place → Place → Vector
offset old new = record { x = new.x ⊖ old.x; y = new.y ⊖ old.y; z = new.z ⊖ old.z }

abbrev pub velocity_offset : Velocity → Velocity → Vector
velocity_offset old new = record { x = new.x ⊖ old.x; y = new.y ⊖ old.y; z = new.z ⊖ old.z }

-- "by subtracting" them
unfoldable pub shifted : State → ℕ → Motion → Motion → Injection
shifted s centre old new =
    injection_at s.moment centre (minus (position s) (offset old.place new.place))
    (minus (velocity s) (velocity_offset old.velocity new.velocity))
