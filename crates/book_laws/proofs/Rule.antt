-- The acceleration under a fuller book: the same, unless a body is not covered. Assumes nothing.
use mathlib.Core.Bool.{Bool, true, false, true≢false}
use mathlib.Core.List.{List, [], ◌∷◌}
use mathlib.Core.Logic.{inl, inr}
use mathlib.Core.Path.{◌≡◌, refl, sym, ap, ◌∙◌, subst}
use Prim.Native.Nat.{ℕ}
use native.Mathlib.Omega.{arith}
use Rattle.base.specs.declared.Refusal.{Refusal}
use Rattle.book.specs.declared.Motion.{Motion}
use Rattle.std.specs.Prelude.{Result, Ok, Err}
use Rattle.base.proofs.Bools.{or_left, or_right}
use Rattle.base.specs.Choice.{if◌then◌otherwise◌, ◌=?◌}
use Rattle.state.specs.State.{used, looked_up, coefficient_of, centre_allowed}
use Rattle.state.specs.declared.Vector.{Vector}
use Rattle.state.specs.declared.Setting.{Setting}
use Rattle.book.specs.Passes.{passes}
use Rattle.gravity.specs.Acceleration.{Body, Sky, Listed, at_rest, stands, seen, sky_of, place_of, sky, rule, view_from, seen_then, acceleration_at}
use Rattle.gravity_bodies.specs.Sky.{bodies_of}
use Rattle.gravity.proofs.Centres.{One, one, two, three, four, five, six, centre_one}
use Rattle.book_laws.specs.Fuller.{HoldsAll, Unless}
use Rattle.book_laws.proofs.Books.{body_fuller}

-- ---- what a term does not read does not matter

lit_alone : (s : Setting) (centre : ℕ) (C sun sun' P : Vector) (bodies : Sky) → (used s.k ≡ true → sun ≡ sun')
    → seen_then (λ all. rule s (view_from s centre C sun all) P) bodies ≡ seen_then (λ all. rule s (view_from s centre C sun' all) P) bodies
lit_alone s centre C sun sun' P bodies same = go (used s.k) refl bodies
  where
    go : (lit : Bool) → used s.k ≡ lit → (bodies : Sky)
        → seen_then (λ all. rule s (view_from s centre C sun all) P) bodies ≡ seen_then (λ all. rule s (view_from s centre C sun' all) P) bodies
    go true e bodies = ap (λ (sun : Vector). seen_then (λ all. rule s (view_from s centre C sun all) P) bodies) (same e)
    go false e (Ok bodies) = rw e
    go false e (Err k) = refl

-- if the result is a list of bodies, so is the result for the later bodies
rest_seen : (body : Listed) (p : Result Motion Refusal) (later : Sky) (all : List Body) → seen body p later ≡ Ok all → (rest : List Body) × (later ≡ Ok rest)
rest_seen body (Ok M) (Ok rest) all e = (rest, refl)
rest_seen body (Ok M) (Err k) all e = let z : ◌≡◌ {A = ℕ} 0 1 = cc in absurd (omega arith)
rest_seen body (Err k) later all e = let z : ◌≡◌ {A = ℕ} 0 1 = cc in absurd (omega arith)

seen_on : (body : Listed) (p : Result Motion Refusal) (later later' : Sky) → Unless (Err Refusal.Cover) later later' → Unless (Err Refusal.Cover) (seen body p later) (seen body p later')
seen_on body (Ok M) later later' (inl e) = inl (ap (seen body (Ok M)) e)
seen_on body (Ok M) later later' (inr e) = inr (ap (seen body (Ok M)) e)
seen_on body (Err k) later later' u = inr refl

module _ (b c : List ℕ) (holds : HoldsAll b c) (pass : passes c ≡ true) where
  stands_fuller : (number t : ℕ) → Unless (Err Refusal.Cover) (stands b number t) (stands c number t)
  stands_fuller number t = go (number =? 1)
    where
      go : (earth : Bool)
          → Unless (Err Refusal.Cover)
          (if earth then Ok at_rest otherwise Rattle.book.specs.Position.body_at b number t) (if earth then Ok at_rest otherwise Rattle.book.specs.Position.body_at c number t)
      go true = inr refl
      go false = body_fuller b c holds pass number t

  seen_fuller : (body : Listed) (t : ℕ) (later later' : Sky) → Unless (Err Refusal.Cover) later later'
      → Unless (Err Refusal.Cover) (seen body (stands b body.number t) later) (seen body (stands c body.number t) later')
  seen_fuller body t later later' u = go (stands_fuller body.number t)
    where
      go : Unless (Err Refusal.Cover) (stands b body.number t) (stands c body.number t)
          → Unless (Err Refusal.Cover) (seen body (stands b body.number t) later) (seen body (stands c body.number t) later')
      go (inl e) = inl (ap (λ (p : Result Motion Refusal). seen body p later) e)
      go (inr e) =
          subst (λ (q : Result Motion Refusal). Unless (Err Refusal.Cover) (seen body (stands b body.number t) later) (seen body q later')) e
          (seen_on body (stands b body.number t) later later' u)

  sky_fuller : (t : ℕ) (bodies : List Listed) → Unless (Err Refusal.Cover) (sky_of b t bodies) (sky_of c t bodies)
  sky_fuller t [] = inr refl
  sky_fuller t (body ∷ rest) = go (looked_up body.m body.for_light) (sky_fuller t rest)
    where
      go : (up : Bool) → Unless (Err Refusal.Cover) (sky_of b t rest) (sky_of c t rest)
          → Unless (Err Refusal.Cover) (if up then seen body (stands b body.number t) (sky_of b t rest) otherwise sky_of b t rest)
          (if up then seen body (stands c body.number t) (sky_of c t rest) otherwise sky_of c t rest)
      go true u = seen_fuller body t (sky_of b t rest) (sky_of c t rest) u
      go false u = u

  -- if every body that is looked up is seen, both books put each at the same place
  abbrev Agree : ℕ → List Listed → Type 0
  Agree t [] = Unit {0}
  Agree t (body ∷ rest) = (looked_up body.m body.for_light ≡ true → stands b body.number t ≡ stands c body.number t) × Agree t rest

  one_agrees : (body : Listed) (t : ℕ) (later : Sky) (all : List Body) → seen body (stands b body.number t) later ≡ Ok all
      → stands b body.number t ≡ stands c body.number t
  one_agrees body t later all e = go (stands_fuller body.number t)
    where
      go : Unless (Err Refusal.Cover) (stands b body.number t) (stands c body.number t) → stands b body.number t ≡ stands c body.number t
      go (inl r) =
          let hidden : Err Refusal.Cover ≡ Ok all = sym (ap (λ (p : Result Motion Refusal). seen body p later) r) ∙ e in
          let z : ◌≡◌ {A = ℕ} 0 1 = cc in
          absurd (omega arith)
      go (inr same) = same

  agree : (t : ℕ) (bodies : List Listed) (all : List Body) → sky_of b t bodies ≡ Ok all → Agree t bodies
  agree t [] all e = tt
  agree t (body ∷ rest) all e = go (looked_up body.m body.for_light) (agree t rest) e
    where
      go : (up : Bool) → ((all : List Body) → sky_of b t rest ≡ Ok all → Agree t rest)
          → (if up then seen body (stands b body.number t) (sky_of b t rest) otherwise sky_of b t rest) ≡ Ok all
          → (up ≡ true → stands b body.number t ≡ stands c body.number t) × Agree t rest
      go true later e =
          let left = rest_seen body (stands b body.number t) (sky_of b t rest) all e in
          (λ u. one_agrees body t (sky_of b t rest) all e, later left.0 left.1)
      go false later e = (λ u. absurd (true≢false (sym u)), later all e)

  centre_agrees : (s : Setting) (centre t : ℕ) → centre_allowed s centre ≡ true → One centre → Agree t (bodies_of s) → stands b centre t ≡ stands c centre t
  unfolding centre_allowed coefficient_of
  centre_agrees s centre t ok one a = refl
  centre_agrees s centre t ok two a = a.1.0 (or_left (used s.moon) false ok)
  centre_agrees s centre t ok three a = a.1.1.0 (or_left (used s.sun) (used s.k) ok)
  centre_agrees s centre t ok four a = a.1.1.1.0 (or_left (used s.venus) false ok)
  centre_agrees s centre t ok five a = a.1.1.1.1.0 (or_left (used s.mars) false ok)
  centre_agrees s centre t ok six a = a.1.1.1.1.1.0 (or_left (used s.jupiter) false ok)

  module _ (s : Setting) (centre t : ℕ) (P : Vector) (ok : centre_allowed s centre ≡ true) where
    by_places : Vector → Vector → Sky → Result Vector Refusal
    by_places C sun bodies =
        seen_then (λ all. rule s (view_from s centre C sun all) P) bodies

    seen_alike : (all : List Body) → sky b s t ≡ Ok all → sky b s t ≡ sky c s t
        → by_places (place_of (stands b centre t)) (place_of (stands b 3 t)) (sky b s t) ≡ by_places (place_of (stands c centre t)) (place_of (stands c 3 t)) (sky c s t)
    unfolding by_places sky
    seen_alike all is same =
        let a = agree t (bodies_of s) all is in
        let there = ap place_of (centre_agrees s centre t ok (centre_one s centre ok) a) in
        lit_alone s centre (place_of (stands b centre t)) (place_of (stands b 3 t)) (place_of (stands c 3 t)) P (sky b s t)
        (λ lit. ap place_of (a.1.1.0 (or_right (used s.sun) (used s.k) lit)))
        ∙ ap (λ (C : Vector). by_places C (place_of (stands c 3 t)) (sky b s t)) there
        ∙ ap (by_places (place_of (stands c centre t)) (place_of (stands c 3 t))) same

    -- the rule about an allowed centre
    pub rule_fuller : Unless (Err Refusal.Cover) (acceleration_at b s centre t P) (acceleration_at c s centre t P)
    unfolding acceleration_at by_places sky
    rule_fuller = go (sky b s t) refl (sky_fuller t (bodies_of s))
      where
        hidden : (k : Refusal) (d : List ℕ) → sky d s t ≡ Err k → by_places (place_of (stands d centre t)) (place_of (stands d 3 t)) (sky d s t) ≡ Err k
        hidden k d e = ap (by_places (place_of (stands d centre t)) (place_of (stands d 3 t))) e

        go : (bodies : Sky) → sky b s t ≡ bodies → Unless (Err Refusal.Cover) (sky b s t) (sky c s t)
            → Unless (Err Refusal.Cover) (by_places (place_of (stands b centre t)) (place_of (stands b 3 t)) (sky b s t)) (by_places (place_of (stands c centre t)) (place_of (stands c 3 t)) (sky c s t))
        go bodies e (inl gap) = inl (hidden Refusal.Cover b gap)
        go (Err k) e (inr same) = inr (hidden k b e ∙ sym (hidden k c (sym same ∙ e)))
        go (Ok all) e (inr same) = inr (seen_alike all e same)
