-- What the code keeps of the bodies looked up, seen from the Earth.
use Rattle.std.specs.Prelude.{Bool, false, List, [], ◌∷◌, ℕ, Float, Option, Some, None, Result, Ok, Err}
use Rattle.base.specs.declared.Refusal.{Refusal}
use Rattle.base.specs.Choice.{if◌then◌otherwise◌, ◌=?◌, ◌≤?◌}
use Rattle.state.specs.State.{finite_vector, used, looked_up}
use Rattle.state.specs.declared.Vector.{Vector}
use Rattle.state.specs.declared.Setting.{Setting}
use Rattle.book.specs.Lookup.{lookup}
use Rattle.book.specs.Series.{place, velocity}
use Rattle.book.specs.Position.{finite_velocity}
use Rattle.book_series.specs.declared.Place.{Place}
use Rattle.gravity_bodies.specs.Sky.{standing, nowhere}
use Rattle.gravity_bodies.specs.declared.Sight.{Sight}
use Rattle.gravity_bodies.specs.declared.Found.{Found}
use Rattle.gravity_bodies.specs.declared.Besides.{Besides}

-- checks before an answer, whatever their refusals are held as
abbrev pub checked_as : {A R : Type 0} → Result (Unit {0}) R → A → (R → A) → A
checked_as (Ok held) answer refused = answer
checked_as (Err refusal) answer refused = refused refusal

infixr 10 ◌ahead_of◌
abbrev pub ◌ahead_of◌ : {A R : Type 0} → Result (Unit {0}) R → Result A R → Result A R
checks ahead_of answer = checked_as checks answer Err

-- a body of which nothing is known: unused, or refused
abbrev pub blank : {R : Type 0} → Float → Result (Unit {0}) R → Sight R
blank m checked = record { checked = checked; entry = 0; m = m; place = nowhere }

-- a body that entry i puts at p; it is refused if its position is not finite or its velocity is not (`slow` is false)
abbrev pub found_at : Place → Bool → ℕ → Float → Sight Refusal
found_at p slow i m =
    if finite_vector (standing p)
    then (if slow then record { checked = Ok tt; entry = i; m = m; place = standing p } otherwise blank m (Err Refusal.NotFinite))
    otherwise blank m (Err Refusal.NotFinite)

abbrev pub found_by : List ℕ → Float → ℕ → Option ℕ → Sight Refusal
found_by b m t None = blank m (Err Refusal.Cover)
found_by b m t (Some i) = found_at (place b i t) (finite_velocity (velocity b i t)) i m

unfoldable pub found_of : List ℕ → ℕ → Float → Bool → ℕ → Sight Refusal
found_of b number m for_light t = if looked_up m for_light then found_by b m t (lookup b number t) otherwise blank m (Ok tt)

unfoldable pub found_in : List ℕ → Setting → ℕ → Found Refusal
found_in b s t =
    record {
      moon = found_of b 2 s.moon false t;
      sun = found_of b 3 s.sun (used s.k) t;
      venus = found_of b 4 s.venus false t;
      mars = found_of b 5 s.mars false t;
      jupiter = found_of b 6 s.jupiter false t;
    }

-- the position of the centre, seen from the Earth
unfoldable pub place_in : {R : Type 0} → Found R → ℕ → Vector
place_in f centre =
    if centre =? 2 then f.moon.place otherwise
    if centre =? 3 then f.sun.place otherwise
    if centre =? 4 then f.venus.place otherwise
    if centre =? 5 then f.mars.place otherwise
    if centre =? 6 then f.jupiter.place otherwise nowhere

-- the five bodies other than the centre, in rising number
unfoldable pub besides : {R : Type 0} → ℕ → Sight R → Found R → Besides R
besides centre earth f =
    record {
      first = if centre ≤? 1 then f.moon otherwise earth;
      second = if centre ≤? 2 then f.sun otherwise f.moon;
      third = if centre ≤? 3 then f.venus otherwise f.sun;
      fourth = if centre ≤? 4 then f.mars otherwise f.venus;
      fifth = if centre ≤? 5 then f.jupiter otherwise f.mars;
    }

-- the first refusal in rising number, if there is one
unfoldable pub all_checked : {R : Type 0} → List (Sight R) → Result (Unit {0}) R
all_checked [] = Ok tt
all_checked (b ∷ rest) = b.checked ahead_of all_checked rest

unfoldable pub all_found : {R : Type 0} → Found R → Result (Unit {0}) R
all_found f = all_checked (f.moon ∷ f.sun ∷ f.venus ∷ f.mars ∷ f.jupiter ∷ [])

-- the entry found, or the guess that was given
abbrev pub entry_or : ℕ → Option ℕ → ℕ
entry_or given (Some i) = i
entry_or given None = given
