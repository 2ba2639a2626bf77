-- The refusal numbers of a body: what holds of them holds of every refusal. Assumes nothing.
use mathlib.Core.Bool.{Bool, true}
use mathlib.Core.List.{List}
use mathlib.Core.Path.{◌≡◌, refl}
use Prim.Native.Nat.{ℕ}
use Rattle.base.specs.declared.Refusal.{Refusal}
use Rattle.std.specs.Prelude.{Result, Ok, Err, Option, Some, None}
use Rattle.base.specs.Checks.{refused_by}
use Rattle.base.specs.Limits.{is_moment}
use Rattle.base.proofs.Cases.{by_if}
use Rattle.book_check.specs.Passes.{passes}
use Rattle.book_search.specs.Lookup.{lookup}
use Rattle.book_series.specs.Series.{place, velocity}
use Rattle.book.specs.Position.{finite_place, finite_velocity, place_or6, body_at, position_answer}
use Rattle.book.specs.declared.Motion.{Motion}

module _ (ok : Refusal → Bool) (six : ok Refusal.Cover ≡ true) (seven : ok Refusal.NotFinite ≡ true) where
  by_place : (b : List ℕ) (t : ℕ) (found : Option ℕ) → refused_by ok (place_or6 b t found) ≡ true
  by_place b t (Some i) = by_if (refused_by ok) (finite_place (place b i t)) (by_if (refused_by ok) (finite_velocity (velocity b i t)) refl seven) seven
  by_place b t None = six

  -- a lookup is refused only with 6 or 7
  pub body_refused : (b : List ℕ) (body t : ℕ) → refused_by ok (body_at b body t) ≡ true
  unfolding body_at
  body_refused b body t = by_place b t (lookup b body t)

  -- the call only with 1, 3, 6 or 7
  pub position_refused : ok Refusal.Book ≡ true → ok Refusal.Moment ≡ true → (b : List ℕ) (body t : ℕ) → refused_by ok (position_answer b body t) ≡ true
  unfolding position_answer
  position_refused one three b body t =
      by_if (refused_by ok) (passes b) (by_if (refused_by ok) (is_moment t) (body_refused b body t) three) one
