-- What the answers say: `Held` if and only if both books pass and the second holds every entry of the first, which is the relation of
-- R-12's law; `Missing` i if and only if both pass, entry i is not held and every entry before it is. Assumes nothing.
use Prim.Native.Nat.{ℕ}
use mathlib.Core.Bool.{Bool, true, false, ◌&&◌}
use mathlib.Core.List.{List}
use mathlib.Core.Path.{◌≡◌, refl, sym, ap}
use native.Mathlib.Omega.{arith}
use Rattle.base.specs.declared.Refusal.{Refusal}
use Rattle.std.specs.Prelude.{Option, Some, None, Result, Ok, Err}
use Rattle.base.specs.Choice.{if◌then◌otherwise◌}
use Rattle.book.specs.Passes.{passes}
use Rattle.book_holds.specs.Answer.{first_missing, holds_answer}
use Rattle.book_holds.specs.Laws.{BothPass, Fuller, MissingFirst}
use Rattle.book_holds.proofs.Copies.{none_missing, none_missing_back, missing_at, missing_at_back}

module _ (b c : List ℕ) where
  -- an answer that is not a refusal means that both books pass, and gives the first missing entry
  record Told (a : Result (Option ℕ) Refusal) : Type 0 where
    pass : BothPass b c
    is : Ok (first_missing b c) ≡ a

  passing_told : (a : Result (Option ℕ) Refusal) → (Err Refusal.Book ≡ a → ⊥) → holds_answer b c ≡ a → Told a
  unfolding holds_answer
  passing_told a other h = by (passes b) (passes c) refl refl h
    where
      by : (x y : Bool) → passes b ≡ x → passes c ≡ y → (if x && y then Ok (first_missing b c) otherwise Err Refusal.Book) ≡ a → Told a
      by true true p q h = record { pass = record { first = p; second = q }; is = h }
      by true false p q h = absurd (other h)
      by false y p q h = absurd (other h)

  told_back : (a : Result (Option ℕ) Refusal) → BothPass b c → Ok (first_missing b c) ≡ a → holds_answer b c ≡ a
  unfolding holds_answer
  told_back a p h = rw (p.first, p.second) h

  not_refused : (l : Option ℕ) → ◌≡◌ {A = Result (Option ℕ) Refusal} (Err Refusal.Book) (Ok l) → ⊥
  not_refused l h = let z : ◌≡◌ {A = ℕ} 0 1 = cc in omega arith

  -- ---- (Ok None)
  pub held_fuller : holds_answer b c ≡ Ok None → Fuller b c
  held_fuller h =
      let t = passing_told (Ok None) (not_refused None) h in
      record { pass = t.pass; all_held = none_missing_back b c (by (first_missing b c) t.is) }
    where
      by : (l : Option ℕ) → ◌≡◌ {A = Result (Option ℕ) Refusal} (Ok l) (Ok None) → l ≡ None
      by l h = cc

  pub fuller_held : Fuller b c → holds_answer b c ≡ Ok None
  fuller_held f = told_back (Ok None) f.pass (ap Ok (none_missing b c f.all_held))

  -- ---- Missing
  pub missing_first : (i : ℕ) → holds_answer b c ≡ Ok (Some i) → MissingFirst b c i
  missing_first i h =
      let t = passing_told (Ok (Some i)) (not_refused (Some i)) h in
      let m = missing_at_back b c i (by (first_missing b c) t.is) in
      record { pass = t.pass; inside = m.inside; not_held_lem = m.not_held_lem; held_before = m.held_before }
    where
      by : (l : Option ℕ) → ◌≡◌ {A = Result (Option ℕ) Refusal} (Ok l) (Ok (Some i)) → l ≡ Some i
      by l h = cc

  pub first_missing_lem : (i : ℕ) → MissingFirst b c i → holds_answer b c ≡ Ok (Some i)
  first_missing_lem i m = told_back (Ok (Some i)) m.pass (ap Ok (missing_at b c i m.inside m.not_held_lem m.held_before))

  -- ---- Refused: only with 1, and if and only if one of the books does not pass
  pub refused_by_1 : (k : Refusal) → holds_answer b c ≡ Err k → (k ≡ Refusal.Book) × ((passes b && passes c) ≡ false)
  unfolding holds_answer
  refused_by_1 k h = by (passes b && passes c) refl h
    where
      no_number : (l : Option ℕ) → ◌≡◌ {A = Result (Option ℕ) Refusal} (Ok l) (Err k) → ⊥
      no_number l h = let z : ◌≡◌ {A = ℕ} 0 1 = cc in omega arith

      by : (x : Bool) → (passes b && passes c) ≡ x → (if x then Ok (first_missing b c) otherwise Err Refusal.Book) ≡ Err k → (k ≡ Refusal.Book) × ((passes b && passes c) ≡ false)
      by true e h = absurd (no_number (first_missing b c) h)
      by false e h = (let same : Refusal.Book ≡ k = cc in sym same, e)

  pub not_passing_refused : (passes b && passes c) ≡ false → holds_answer b c ≡ Err Refusal.Book
  unfolding holds_answer
  not_passing_refused h = rw h refl
