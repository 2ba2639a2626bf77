-- For entries in order, the last kept entry decides on overlap as the last kept entry of the same body does. Assumes nothing.
use Prim.Native.Nat.{ℕ, zero, suc, ◌-◌, ◌<◌}
use mathlib.Core.Bool.{Bool, true, false}
use mathlib.Core.List.{List, [], ◌∷◌, ◌++◌}
use mathlib.Core.Path.{◌≡◌, refl, sym, ap, subst, ◌∙◌}
use native.Mathlib.Nat.{not-suc-le-zero, le_of_suc-le-suc}
use native.Mathlib.Omega.{arith}
use lib.ListN.{length, get_or}
use lib.Seq.{append_snoc}
use borrow.Author.Tests.{eqb-true, eq-eqb, ne_eqb}
use Rattle.base.specs.Choice.{if◌then◌otherwise◌, ◌=?◌}
use Rattle.book.specs.Contents.{body_of}
use Rattle.book.specs.Passes.{ascends, overlaps}
use Rattle.repair_sort.proofs.Either.{either_way}
use Rattle.repair_sort.proofs.Keys.{not_before}
use Rattle.repair_sort.proofs.Inserted.{NoneBefore, Sorted}
use Rattle.repair_choose.specs.Forward.{Sofar, of_body, overlaps_last, overlaps_last_of_body, has_room, settle, forward}
use Rattle.repair_choose.specs.LastKept.{settle_by_last, forward_by_last}

module _ (b : List ℕ) where
  -- ---- the kept entries and the rest after them, all in order
  none_among : (j : ℕ) (l : List ℕ) (i : ℕ) (rest : List ℕ) → NoneBefore b j (l ++ i ∷ rest) → ascends b i j ≡ false
  none_among j [] i rest a = a.0
  none_among j (x ∷ xs) i rest a = none_among j xs i rest a.1

  pub none_before : (kept : List ℕ) (i : ℕ) (rest : List ℕ) → Sorted b (kept ++ i ∷ rest) → (k : ℕ) → k < length kept → ascends b i (get_or kept k 0) ≡ false
  none_before [] i rest s k h = absurd (not-suc-le-zero h)
  none_before (j ∷ js) i rest s zero h = none_among j js i rest s.0
  none_before (j ∷ js) i rest s (suc k) h = none_before js i rest s.1 k (le_of_suc-le-suc h)

  none_without : (j : ℕ) (l : List ℕ) (i : ℕ) (rest : List ℕ) → NoneBefore b j (l ++ i ∷ rest) → NoneBefore b j (l ++ rest)
  none_without j [] i rest a = a.1
  none_without j (x ∷ xs) i rest a = (a.0, none_without j xs i rest a.1)

  pub sorted_without : (kept : List ℕ) (i : ℕ) (rest : List ℕ) → Sorted b (kept ++ i ∷ rest) → Sorted b (kept ++ rest)
  sorted_without [] i rest s = s.1
  sorted_without (j ∷ js) i rest s = (none_without j js i rest s.0, sorted_without js i rest s.1)

  pub sorted_with : (kept : List ℕ) (i : ℕ) (rest : List ℕ) → Sorted b (kept ++ i ∷ rest) → Sorted b ((kept ++ (i ∷ [])) ++ rest)
  sorted_with kept i rest s = subst (Sorted b) (sym (append_snoc kept i rest)) s

  -- ---- the last of a list
  last_of : (i j : ℕ) (js : List ℕ) → overlaps_last b (j ∷ js) i ≡ overlaps b (get_or (j ∷ js) (length js) 0) i
  last_of i j js =
      let some : (length (j ∷ js) =? 0) ≡ false = ne_eqb (length (j ∷ js)) 0 (λ z. omega arith) in
      let place : length (j ∷ js) - 1 ≡ length js = omega arith in
      rw (some, place)

  last_of_more : (i j x : ℕ) (xs : List ℕ) → overlaps_last b (j ∷ x ∷ xs) i ≡ overlaps_last b (x ∷ xs) i
  last_of_more i j x xs = last_of i j (x ∷ xs) ∙ sym (last_of i x xs)

  other_body : (j i : ℕ) → (body_of b j =? body_of b i) ≡ false → overlaps b j i ≡ false
  other_body j i e = rw e

  pub own_last : (kept : List ℕ) (i : ℕ) (rest : List ℕ) → Sorted b (kept ++ i ∷ rest) → overlaps_last b kept i ≡ overlaps_last_of_body b kept i
  own_last [] i rest s = refl
  own_last (j ∷ []) i rest s = by (body_of b j =? body_of b i) refl
    where
      by : (y : Bool) → (body_of b j =? body_of b i) ≡ y → overlaps_last b (j ∷ []) i ≡ overlaps_last b (if y then j ∷ [] otherwise []) i
      by true e = refl
      by false e = other_body j i e
  own_last (j ∷ x ∷ xs) i rest s = last_of_more i j x xs ∙ own_last (x ∷ xs) i rest s.1 ∙ by (body_of b j =? body_of b i) refl
    where
      -- if i has the same body as j, so has x, which is between j and i
      same : (body_of b j =? body_of b i) ≡ true → (body_of b x =? body_of b i) ≡ true
      same e =
          let q = eqb-true (body_of b j) (body_of b i) e in
          let f = (not_before b x j s.0.0).by_body in
          let g = (not_before b i x (none_among x xs i rest s.1.0)).by_body in
          eq-eqb (body_of b x) (body_of b i) (omega arith)

      by : (y : Bool) → (body_of b j =? body_of b i) ≡ y
          → overlaps_last b (of_body b (body_of b i) (x ∷ xs)) i ≡ overlaps_last b (if y then j ∷ of_body b (body_of b i) (x ∷ xs) otherwise of_body b (body_of b i) (x ∷ xs)) i
      by true e = rw (same e) (sym (last_of_more i j x (of_body b (body_of b i) xs)))
      by false e = refl

  -- ---- the whole pass
  module _ (room : ℕ) where
    settle_last : (s : Sofar) (i : ℕ) (rest : List ℕ) → Sorted b (s.kept ++ i ∷ rest) → settle_by_last b room s i ≡ settle b room s i
    unfolding settle settle_by_last
    settle_last s i rest o = rw (own_last s.kept i rest o)

    pub settle_sorted : (s : Sofar) (i : ℕ) (rest : List ℕ) → Sorted b (s.kept ++ i ∷ rest) → Sorted b ((settle b room s i).kept ++ rest)
    unfolding settle
    settle_sorted s i rest o =
        either_way (λ (r : Sofar). Sorted b (r.kept ++ rest)) (overlaps_last_of_body b s.kept i)
        (λ e. sorted_without s.kept i rest o)
        (λ e.
        either_way (λ (r : Sofar). Sorted b (r.kept ++ rest)) (has_room b room s.kept i)
        (λ f. sorted_with s.kept i rest o)
        (λ f. sorted_without s.kept i rest o))

    forward_last : (s : Sofar) (l : List ℕ) → Sorted b (s.kept ++ l) → forward_by_last b room s l ≡ forward b room s l
    forward_last s [] o = refl
    forward_last s (i ∷ is) o = ap (λ (t : Sofar). forward_by_last b room t is) (settle_last s i is o) ∙ forward_last (settle b room s i) is (settle_sorted s i is o)

    -- going forward from none through entries in order, the last kept entry is enough
    pub last_is_enough : (fates order : List ℕ) → Sorted b order → forward_by_last b room (record { kept = []; fates = fates }) order ≡ forward b room (record { kept = []; fates = fates }) order
    last_is_enough fates order o = forward_last (record { kept = []; fates = fates }) order o
