-- The order is by key, and entries with equal keys are in the order of the contents. Assumes nothing.
use Prim
use Prim.Native.Nat.{ℕ, zero, suc, ◌<◌}
use mathlib.Core.Bool.{true, false}
use mathlib.Core.List.{List, [], ◌∷◌}
use mathlib.Core.Path.{◌≡◌}
use native.Mathlib.Nat.{not-suc-le-zero, le_of_suc-le-suc}
use native.Mathlib.Omega.{arith}
use lib.ListN.{length, get_or}
use Rattle.base.specs.Choice.{◌=?◌}
use Rattle.book.specs.Passes.{ascends}
use Rattle.base.proofs.Bools.{clash}
use Rattle.repair_sort.specs.Fates.{goes_on}
use Rattle.repair_sort.specs.Reasons.{first_reason}
use Rattle.repair_sort.specs.Ordered.{insert, ordered}
use Rattle.repair_sort.proofs.Either.{either_way}
use Rattle.repair_sort.proofs.Keys.{not_before_through}
use Rattle.repair_sort.proofs.Inserted.{NoneBefore, Sorted, none_at, ordered_sorted}
use Rattle.repair_laws.specs.Laws.{Stable}

module _ (b : List ℕ) where
  -- every entry of a list is before n in the contents
  abbrev AllBelow : ℕ → List ℕ → Type 0
  AllBelow n [] = Unit {0}
  AllBelow n (j ∷ js) = (j < n) × AllBelow n js

  -- every entry of a list whose key is not above that of j is after j in the contents
  abbrev Behind : ℕ → List ℕ → Type 0
  Behind j [] = Unit {0}
  Behind j (x ∷ xs) = (ascends b j x ≡ false → j < x) × Behind j xs

  abbrev Kept : List ℕ → Type 0
  Kept [] = Unit {0}
  Kept (j ∷ js) = Behind j js × Kept js

  all_more : (n i : ℕ) (l : List ℕ) → i < n → AllBelow n l → AllBelow n (insert b i l)
  all_more n i [] h a = (h, tt)
  all_more n i (j ∷ js) h a = either_way (AllBelow n) (ascends b i j) (λ e. (h, a)) (λ e. (a.0, all_more n i js h a.1))

  all_later : (n : ℕ) (l : List ℕ) → AllBelow n l → AllBelow (suc n) l
  all_later n [] a = tt
  all_later n (j ∷ js) a = let h = a.0 in (omega arith, all_later n js a.1)

  all_ordered : (n : ℕ) → AllBelow n (ordered b n)
  all_ordered zero = tt
  all_ordered (suc n) =
      let before = all_later n (ordered b n) (all_ordered n) in
      either_way (AllBelow (suc n)) (first_reason b n =? goes_on) (λ e. all_more (suc n) n (ordered b n) (omega arith) before) (λ e. before)

  behind_more : (j i : ℕ) (l : List ℕ) → j < i → Behind j l → Behind j (insert b i l)
  behind_more j i [] h a = (λ e. h, tt)
  behind_more j i (x ∷ xs) h a = either_way (Behind j) (ascends b i x) (λ e. (λ f. h, a)) (λ e. (a.0, behind_more j i xs h a.1))

  -- if i comes before j, and no entry of a list before j, i comes before them all
  none_equal : (i j : ℕ) (l : List ℕ) → ascends b i j ≡ true → NoneBefore b j l → Behind i l
  none_equal i j [] h a = tt
  none_equal i j (x ∷ xs) h a = (λ e. absurd (clash h (not_before_through b j x i e a.0)), none_equal i j xs h a.1)

  kept_more : (i : ℕ) (l : List ℕ) → AllBelow i l → Sorted b l → Kept l → Kept (insert b i l)
  kept_more i [] a s p = (tt, tt)
  kept_more i (j ∷ js) a s p =
      either_way Kept (ascends b i j)
      (λ h. ((λ e. absurd (clash h e), none_equal i j js h s.0), p))
      (λ h. (behind_more j i js a.0 p.0, kept_more i js a.1 s.1 p.1))

  kept_ordered : (n : ℕ) → Kept (ordered b n)
  kept_ordered zero = tt
  kept_ordered (suc n) =
      either_way Kept (first_reason b n =? goes_on)
      (λ e. kept_more n (ordered b n) (all_ordered n) (ordered_sorted b n) (kept_ordered n))
      (λ e. kept_ordered n)

  behind_at : (j : ℕ) (l : List ℕ) → Behind j l → (m : ℕ) → m < length l → ascends b j (get_or l m 0) ≡ false → j < get_or l m 0
  behind_at j [] a m h e = absurd (not-suc-le-zero h)
  behind_at j (x ∷ xs) a zero h e = a.0 e
  behind_at j (x ∷ xs) a (suc m) h e = behind_at j xs a.1 m (le_of_suc-le-suc h) e

  sorted_at : (l : List ℕ) → Sorted b l → (k m : ℕ) → k < m → m < length l → ascends b (get_or l m 0) (get_or l k 0) ≡ false
  sorted_at [] s k m h l = absurd (not-suc-le-zero l)
  sorted_at (j ∷ js) s k zero h l = absurd (not-suc-le-zero h)
  sorted_at (j ∷ js) s zero (suc m) h l = none_at b j js s.0 m (le_of_suc-le-suc l)
  sorted_at (j ∷ js) s (suc k) (suc m) h l = sorted_at js s.1 k m (le_of_suc-le-suc h) (le_of_suc-le-suc l)

  kept_at : (l : List ℕ) → Kept l → (k m : ℕ) → k < m → m < length l → ascends b (get_or l k 0) (get_or l m 0) ≡ false → get_or l k 0 < get_or l m 0
  kept_at [] p k m h l e = absurd (not-suc-le-zero l)
  kept_at (j ∷ js) p k zero h l e = absurd (not-suc-le-zero h)
  kept_at (j ∷ js) p zero (suc m) h l e = behind_at j js p.0 m (le_of_suc-le-suc l) e
  kept_at (j ∷ js) p (suc k) (suc m) h l e = kept_at js p.1 k m (le_of_suc-le-suc h) (le_of_suc-le-suc l) e

  pub ordered_stable : (n : ℕ) → Stable b (ordered b n)
  ordered_stable n = record { by_key = sorted_at (ordered b n) (ordered_sorted b n); by_contents = kept_at (ordered b n) (kept_ordered n) }
