-- The bodies as the code looks them up are those of document 01. Assumes nothing.
use mathlib.Core.Bool.{Bool, true, false, ◌||◌, true≢false}
use mathlib.Core.List.{List, [], ◌∷◌}
use mathlib.Core.Path.{◌≡◌, refl, sym, ◌∙◌}
use Prim.Native.Nat.{ℕ, suc}
use lib.Ieee.{Float}
use native.Mathlib.Omega.{arith}
use Rattle.base.specs.declared.Refusal.{Refusal}
use Rattle.std.specs.Prelude.{Result, Ok, Err, Option, Some, None}
use Rattle.base.proofs.Checks.{first_of}
use Rattle.base.specs.Choice.{if◌then◌otherwise◌, ◌=?◌}
use Rattle.state.specs.State.{finite_vector, used, looked_up}
use Rattle.book.specs.Lookup.{lookup}
use Rattle.book.specs.Series.{place, velocity}
use Rattle.book.specs.Position.{finite_velocity, body_at}
use Rattle.book.proofs.BodyAt.{no_cover, not_finite, too_fast, at_place}
use Rattle.book_series.specs.declared.Place.{Place}
use Rattle.book.specs.declared.Motion.{Motion}
use Rattle.gravity_bodies.specs.Sky.{Listed, standing, at_rest, stands, place_of}
use Rattle.gravity_bodies.specs.Looked.{blank, found_at, found_by, found_of, all_checked, entry_or}
use Rattle.gravity_bodies.specs.declared.Sight.{Sight}

-- ---- the three ways in which a body can be looked up

pub data Looked (b : List ℕ) (number : ℕ) (m : Float) (for_light : Bool) (t : ℕ) : Sight Refusal → Type 0 where
  unlooked : looked_up m for_light ≡ false → Looked b number m for_light t (blank m (Ok tt))
  refused : (k : Refusal) → looked_up m for_light ≡ true → stands b number t ≡ Err k → Looked b number m for_light t (blank m (Err k))
  there : (M : Motion) (i : ℕ) → looked_up m for_light ≡ true → stands b number t ≡ Ok M
      → Looked b number m for_light t (record { checked = Ok tt; entry = i; m = m; place = standing M.place })

-- what is not looked up does not pull
pub unpulling : (m : Float) (for_light : Bool) → looked_up m for_light ≡ false → used m ≡ false
unpulling m for_light = go (used m)
  where
    go : (u : Bool) → (u || for_light) ≡ false → u ≡ false
    go true e = e
    go false e = refl

-- the Earth is at zero; another body must be looked up
unfoldable pub sight_of : List ℕ → ℕ → Listed → Sight Refusal
sight_of b t body = if body.number =? 1 then blank body.m (Ok tt) otherwise found_of b body.number body.m body.for_light t

module _ (b : List ℕ) (number : ℕ) (m : Float) (for_light : Bool) (t : ℕ) where
  pub found : (number =? 1) ≡ false → Looked b number m for_light t (found_of b number m for_light t)
  unfolding found_of
  found far = go (looked_up m for_light) refl
    where
      is : {p : Result Motion Refusal} → body_at b number t ≡ p → stands b number t ≡ p
      is e = rw far e

      at : looked_up m for_light ≡ true → (i : ℕ) (ok slow : Bool) → lookup b number t ≡ Some i → finite_vector (standing (place b i t)) ≡ ok → finite_velocity (velocity b i t) ≡ slow
          → Looked b number m for_light t (found_at (place b i t) (finite_velocity (velocity b i t)) i m)
      at u i true true l e v = rw (e, v) (there (record { place = place b i t; velocity = velocity b i t }) i u (is (at_place b number t i l e v)))
      at u i true false l e v = rw (e, v) (refused Refusal.NotFinite u (is (too_fast b number t i l e v)))
      at u i false slow l e v = rw e (refused Refusal.NotFinite u (is (not_finite b number t i l e)))

      by : looked_up m for_light ≡ true → (l : Option ℕ) → lookup b number t ≡ l → Looked b number m for_light t (found_by b m t l)
      by u None e = refused Refusal.Cover u (is (no_cover b number t e))
      by u (Some i) e = at u i (finite_vector (standing (place b i t))) (finite_velocity (velocity b i t)) e refl refl

      go : (u : Bool) → looked_up m for_light ≡ u → Looked b number m for_light t (if u then found_by b m t (lookup b number t) otherwise blank m (Ok tt))
      go true u = by u (lookup b number t) refl
      go false u = unlooked u

  -- a body that is looked up and has entry i, by its place and the test of its velocity
  pub by_entry : (i : ℕ) (p : Place) (slow : Bool) → looked_up m for_light ≡ true → lookup b number t ≡ Some i → p ≡ place b i t → slow ≡ finite_velocity (velocity b i t)
      → found_at p slow i m ≡ found_of b number m for_light t
  unfolding found_of
  by_entry i p slow u l e v = rw (u, l, e, v)

  pub earth : (number =? 1) ≡ true → Looked b number m for_light t (blank m (Ok tt))
  earth near = go (looked_up m for_light) refl
    where
      go : (u : Bool) → looked_up m for_light ≡ u → Looked b number m for_light t (blank m (Ok tt))
      go true u = there at_rest 0 u (rw near)
      go false u = unlooked u

  pub looked : Looked b number m for_light t (if number =? 1 then blank m (Ok tt) otherwise found_of b number m for_light t)
  looked = go (number =? 1) refl
    where
      go : (near : Bool) → (number =? 1) ≡ near → Looked b number m for_light t (if near then blank m (Ok tt) otherwise found_of b number m for_light t)
      go true near = earth near
      go false near = found near

  -- a body that is looked up is seen at its position
  pub placed : looked_up m for_light ≡ true → (s : Sight Refusal) → Looked b number m for_light t s → s.place ≡ place_of (stands b number t)
  placed u s (unlooked n) = let z : true ≡ false = sym u ∙ n in absurd (true≢false z)
  placed u s (refused k e f) = rw f
  placed u s (there M i e f) = rw f

-- a used body is looked up
pub used_looked : (m : Float) (for_light : Bool) → used m ≡ true → looked_up m for_light ≡ true
used_looked m for_light u = rw u

unfoldable pub sights_of : List ℕ → ℕ → List Listed → List (Sight Refusal)
sights_of b t [] = []
sights_of b t (body ∷ rest) = sight_of b t body ∷ sights_of b t rest

-- ---- what follows if no body is refused

abbrev pub AllClear : List (Sight Refusal) → Type 0
AllClear [] = Unit {0}
AllClear (s ∷ rest) = (s.checked ≡ Ok tt) × AllClear rest

pub all_clear : (ss : List (Sight Refusal)) → all_checked ss ≡ Ok tt → AllClear ss
unfolding all_checked
all_clear [] e = tt
all_clear (s ∷ rest) e = let f = first_of s.checked (all_checked rest) tt e in (f.0, all_clear rest f.1)

-- the new guess of a body that was seen is the covering entry
pub seen_entry : (b : List ℕ) (number : ℕ) (m : Float) (for_light : Bool) (t given : ℕ) → (found_of b number m for_light t).checked ≡ Ok tt
    → (if looked_up m for_light then (found_of b number m for_light t).entry otherwise given) ≡ (if looked_up m for_light then entry_or given (lookup b number t) otherwise given)
unfolding found_of
seen_entry b number m for_light t given = go (looked_up m for_light)
  where
    at : (i : ℕ) (ok slow : Bool) → finite_vector (standing (place b i t)) ≡ ok
        → (found_at (place b i t) slow i m).checked ≡ Ok tt → (found_at (place b i t) slow i m).entry ≡ i
    at i true true e r = rw e
    at i true false e r = let z : ◌≡◌ {A = Result (Unit {0}) Refusal} (Err Refusal.NotFinite) (Ok tt) = rw e at r in cc
    at i false slow e r = let z : ◌≡◌ {A = Result (Unit {0}) Refusal} (Err Refusal.NotFinite) (Ok tt) = rw e at r in cc

    by : (l : Option ℕ) → (found_by b m t l).checked ≡ Ok tt → (found_by b m t l).entry ≡ entry_or given l
    by None r = cc
    by (Some i) r = at i (finite_vector (standing (place b i t))) (finite_velocity (velocity b i t)) refl r

    go : (u : Bool) → (if u then found_by b m t (lookup b number t) otherwise blank m (Ok tt)).checked ≡ Ok tt
        → (if u then (if u then found_by b m t (lookup b number t) otherwise blank m (Ok tt)).entry otherwise given)
        ≡ (if u then entry_or given (lookup b number t) otherwise given)
    go true r = by (lookup b number t) r
    go false r = refl
