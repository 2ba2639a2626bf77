-- Document 01, "The ephemeris book" and "Refusal numbers": the position of a body at a moment, and the body position call. Document 02,
-- R-5: with its velocity.
use Rattle.base.specs.declared.Refusal.{Refusal}
use Rattle.book.specs.declared.Motion.{Motion}
use Rattle.std.specs.Prelude.{ℕ, Bool, ◌&&◌, List, Result, Ok, Err, Option, Some, None}
use Rattle.std.specs.Float.Ieee.Scale.{finite}
use Rattle.base.specs.Choice.{if◌then◌otherwise◌}
use Rattle.base.specs.Limits.{is_moment}
use Rattle.book_check.specs.Passes.{passes}
use Rattle.book_search.specs.Lookup.{lookup}
use Rattle.book_series.specs.Series.{place, velocity}
use Rattle.book_series.specs.declared.Place.{Place}
use Rattle.book_series.specs.declared.Velocity.{Velocity}

abbrev pub finite_place : Place → Bool
finite_place p = finite p.x && finite p.y && finite p.z

abbrev pub finite_velocity : Velocity → Bool
finite_velocity v = finite v.x && finite v.y && finite v.z

-- 7: a position that is not finite; document 02, R-5: "A velocity that is not finite is 7, after position"
abbrev pub finite_or7 : Place → Velocity → Result Motion Refusal
finite_or7 p v =
    if finite_place p then (if finite_velocity v then Ok (record { place = p; velocity = v }) otherwise Err Refusal.NotFinite) otherwise Err Refusal.NotFinite

-- 6: no cover
abbrev pub place_or6 : List ℕ → ℕ → Option ℕ → Result Motion Refusal
place_or6 b t (Some i) = finite_or7 (place b i t) (velocity b i t)
place_or6 b t None = Err Refusal.Cover

-- looked up "for cover (6), then for a finite position (7)", and by R-5 for a finite velocity (7)
unfoldable pub body_at : List ℕ → ℕ → ℕ → Result Motion Refusal
body_at b body t = place_or6 b t (lookup b body t)

-- "Body position: 1, 3, 6, 7; a number without entries has no cover"; by R-5 the 7 for the velocity comes last
unfoldable pub position_answer : List ℕ → ℕ → ℕ → Result Motion Refusal
position_answer b body t =
    if passes b then (if is_moment t then body_at b body t otherwise Err Refusal.Moment) otherwise Err Refusal.Book
