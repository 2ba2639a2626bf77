-- What follows from the returned number, and the converse: it is 0, 104 or 1. Assumes nothing.
use Prim.Native.Nat.{ℕ}
use mathlib.Core.Bool.{false, ◌&&◌}
use mathlib.Core.List.{List}
use mathlib.Core.Logic.{◌⊎◌, inl, inr}
use mathlib.Core.Path.{◌≡◌, refl, ap}
use native.Mathlib.Omega.{arith}
use Rattle.std.specs.Prelude.{Result, Ok, Err, Option, Some, None}
use Rattle.base.specs.Refusals.{number_of}
use Rattle.base.specs.declared.Refusal.{Refusal}
use Rattle.book.specs.Passes.{passes}
use Rattle.book_holds.specs.Answer.{holds_answer}
use Rattle.book_holds.specs.Laws.{Fuller, MissingFirst}
use Rattle.book_holds.proofs.Laws.{held_fuller, fuller_held, missing_first, first_missing_lem, refused_by_1, not_passing_refused}
use Rattle.c_answer.specs.Handed.{handed}
use Rattle.belfry_book.specs.Lent.{not_held, of_holds}

module _ (before : ℕ) (b c : List ℕ) where
  by_answer : (a : Result (Option ℕ) Refusal) → holds_answer b c ≡ a → of_holds before (holds_answer b c) ≡ of_holds before a
  by_answer a e = ap (of_holds before) e

  -- ---- 0: both books pass, and the second holds every entry of the first (R-12's relation)
  pub returned_0 : (of_holds before (holds_answer b c)).returned ≡ 0 → Fuller b c
  returned_0 h = go (holds_answer b c) refl h
    where
      go : (a : Result (Option ℕ) Refusal) → holds_answer b c ≡ a → (of_holds before a).returned ≡ 0 → Fuller b c
      go (Ok None) e h = held_fuller b c e
      go (Ok (Some i)) e h = absurd (omega arith)
      go (Err k) e h = let one : number_of k ≡ 1 = ap number_of (refused_by_1 b c k e).0 in absurd (omega arith)

  pub fuller_returns_0 : Fuller b c → of_holds before (holds_answer b c) ≡ handed 0 before
  fuller_returns_0 f = by_answer (Ok None) (fuller_held b c f)

  -- ---- 104: the memory holds the number of the first entry that is missing
  pub returned_104 : (of_holds before (holds_answer b c)).returned ≡ not_held → MissingFirst b c (of_holds before (holds_answer b c)).memory
  returned_104 h = go (holds_answer b c) refl h
    where
      go : (a : Result (Option ℕ) Refusal) → holds_answer b c ≡ a → (of_holds before a).returned ≡ not_held → MissingFirst b c (of_holds before a).memory
      go (Ok None) e h = absurd (omega arith)
      go (Ok (Some i)) e h = missing_first b c i e
      go (Err k) e h = let one : number_of k ≡ 1 = ap number_of (refused_by_1 b c k e).0 in absurd (omega arith)

  pub missing_returns_104 : (i : ℕ) → MissingFirst b c i → of_holds before (holds_answer b c) ≡ handed not_held i
  missing_returns_104 i m = by_answer (Ok (Some i)) (first_missing_lem b c i m)

  -- ---- 1: one of the books does not pass
  pub returned_1 : (of_holds before (holds_answer b c)).returned ≡ 1 → (passes b && passes c) ≡ false
  returned_1 h = go (holds_answer b c) refl h
    where
      go : (a : Result (Option ℕ) Refusal) → holds_answer b c ≡ a → (of_holds before a).returned ≡ 1 → (passes b && passes c) ≡ false
      go (Ok None) e h = absurd (omega arith)
      go (Ok (Some i)) e h = absurd (omega arith)
      go (Err k) e h = (refused_by_1 b c k e).1

  pub not_passing_returns_1 : (passes b && passes c) ≡ false → of_holds before (holds_answer b c) ≡ handed 1 before
  not_passing_returns_1 h = by_answer (Err Refusal.Book) (not_passing_refused b c h)

  -- ---- there is no other number, and only 104 writes to the memory
  pub three_numbers : ((of_holds before (holds_answer b c)).returned ≡ 0) ⊎ ((of_holds before (holds_answer b c)).returned ≡ not_held) ⊎ ((of_holds before (holds_answer b c)).returned ≡ 1)
  three_numbers = go (holds_answer b c) refl
    where
      go : (a : Result (Option ℕ) Refusal) → holds_answer b c ≡ a → ((of_holds before a).returned ≡ 0) ⊎ ((of_holds before a).returned ≡ not_held) ⊎ ((of_holds before a).returned ≡ 1)
      go (Ok None) e = inl refl
      go (Ok (Some i)) e = inr (inl refl)
      go (Err k) e = inr (inr (ap number_of (refused_by_1 b c k e).0))

  pub unwritten : ((of_holds before (holds_answer b c)).returned ≡ not_held → ⊥) → (of_holds before (holds_answer b c)).memory ≡ before
  unwritten other = go (holds_answer b c) other
    where
      go : (a : Result (Option ℕ) Refusal) → ((of_holds before a).returned ≡ not_held → ⊥) → (of_holds before a).memory ≡ before
      go (Ok None) other = refl
      go (Ok (Some i)) other = absurd (other refl)
      go (Err k) other = refl
