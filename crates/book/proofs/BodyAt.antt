-- The result of looking a body up, case by case; it depends only on the content of the covering entry. Assumes nothing.
use Prim.Native.Nat.{ℕ}
use mathlib.Core.Bool.{true, false}
use mathlib.Core.List.{List}
use mathlib.Core.Path.{◌≡◌, sym, ap, ◌∙◌}
use Rattle.base.specs.declared.Refusal.{Refusal}
use Rattle.std.specs.Prelude.{Ok, Err, Some, None}
use Rattle.book_search.specs.Lookup.{lookup}
use Rattle.book_series.specs.Series.{Content, place_in, velocity_in, content_of, place, velocity}
use Rattle.book.specs.Position.{body_at, finite_place, finite_velocity, finite_or7}

module _ (b : List ℕ) (body t : ℕ) where
  pub no_cover : lookup b body t ≡ None → body_at b body t ≡ Err Refusal.Cover
  unfolding body_at
  no_cover h = rw h

  module _ (i : ℕ) (h : lookup b body t ≡ Some i) where
    pub not_finite : finite_place (place b i t) ≡ false → body_at b body t ≡ Err Refusal.NotFinite
    unfolding body_at
    not_finite f = rw (h, f)

    pub too_fast : finite_place (place b i t) ≡ true → finite_velocity (velocity b i t) ≡ false → body_at b body t ≡ Err Refusal.NotFinite
    unfolding body_at
    too_fast f v = rw (h, f, v)

    pub at_place : finite_place (place b i t) ≡ true → finite_velocity (velocity b i t) ≡ true
        → body_at b body t ≡ Ok (record { place = place b i t; velocity = velocity b i t })
    unfolding body_at
    at_place f v = rw (h, f, v)

    pub by_content : body_at b body t ≡ finite_or7 (place_in (content_of b i) t) (velocity_in (content_of b i) t)
    unfolding body_at place velocity
    by_content = rw h

-- two books whose covering entries have the same content, at any place, give the same
pub same_content : (b c : List ℕ) (body t i j : ℕ) → lookup b body t ≡ Some i → lookup c body t ≡ Some j → content_of b i ≡ content_of c j →
    body_at b body t ≡ body_at c body t
same_content b c body t i j h h' e =
    by_content b body t i h ∙ ap (λ (e : Content). finite_or7 (place_in e t) (velocity_in e t)) e ∙ sym (by_content c body t j h')
