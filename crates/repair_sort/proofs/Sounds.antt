-- The entries that go on can be read: contents, fields, block and coefficients are as they should be. Assumes nothing.
use Prim
use Prim.Native.Nat.{ℕ, zero, suc, ◌+◌, ◌<◌, ◌≤◌}
use mathlib.Core.Bool.{Bool, true, false}
use mathlib.Core.List.{List, [], ◌∷◌, ◌++◌}
use mathlib.Core.Path.{◌≡◌, refl}
use native.Mathlib.Nat.{not-suc-le-zero, le_of_suc-le-suc}
use native.Mathlib.Omega.{arith}
use lib.ListN.{length, get_or, take}
use Rattle.std.specs.List.{All}
use Rattle.std.proofs.lemmas.List.{get_or_default}
use borrow.Author.Tests.{leb-true, eqb-true}
use Rattle.base.specs.Choice.{if◌then◌otherwise◌, ◌=?◌}
use Rattle.book.specs.Contents.{entry_at, offset_of, block_length}
use Rattle.book.specs.Passes.{fields_allowed, ascends, coefficients_finite}
use Rattle.repair_sort.specs.Fates.{goes_on}
use Rattle.repair_sort.specs.Reasons.{block_inside, first_reason}
use Rattle.repair_sort.specs.Ordered.{insert, ordered}
use Rattle.repair_sort.specs.Held.{Sound, AllSound}
use Rattle.repair_sort.proofs.Either.{either_way}

none : (f k c : Bool) → ◌≡◌ {A = ℕ} (if f then (if k then (if c then 3_000 otherwise 3_003) otherwise 3_002) otherwise 3_001) 3_000 → (f ≡ true) × (k ≡ true) × (c ≡ true)
none true true true h = (refl, refl, refl)
none true true false h = absurd (omega arith)
none true false c h = absurd (omega arith)
none false k c h = absurd (omega arith)

module _ (b : List ℕ) where
  pub sound : (i : ℕ) → entry_at i + 24 ≤ length b → first_reason b i ≡ goes_on → Sound b i
  unfolding first_reason
  sound i h e =
      let t = none (fields_allowed b i) (block_inside b i) (coefficients_finite b i) e in
      record { inside = h; fields = t.0; block = leb-true (offset_of b i + block_length b i) (length b) t.1; finites = t.2 }

  insert_sound : (i : ℕ) (l : List ℕ) → Sound b i → AllSound b l → AllSound b (insert b i l)
  insert_sound i [] s a = (s, tt)
  insert_sound i (j ∷ js) s a = either_way (AllSound b) (ascends b i j) (λ h. (s, a)) (λ h. (a.0, insert_sound i js s a.1))

  pub ordered_sound : (n : ℕ) → entry_at n ≤ length b → AllSound b (ordered b n)
  ordered_sound zero h = tt
  ordered_sound (suc n) h =
      let before = ordered_sound n (omega arith) in
      either_way (AllSound b) (first_reason b n =? goes_on)
      (λ e. insert_sound n (ordered b n) (sound n (omega arith) (eqb-true (first_reason b n) goes_on e)) before)
      (λ e. before)

  pub sound_at : (l : List ℕ) → AllSound b l → (k : ℕ) → k < length l → Sound b (get_or l k 0)
  sound_at [] a k h = absurd (not-suc-le-zero h)
  sound_at (j ∷ js) a zero h = a.0
  sound_at (j ∷ js) a (suc k) h = sound_at js a.1 k (le_of_suc-le-suc h)

  pub sound_everywhere : (l : List ℕ) → AllSound b l → All (λ j. entry_at j + 24 ≤ length b) l
  sound_everywhere l a k d h = rw (get_or_default l k d 0 h) (sound_at l a k h).inside

  pub sound_more : (l : List ℕ) (i : ℕ) → AllSound b l → Sound b i → AllSound b (l ++ (i ∷ []))
  sound_more [] i a s = (s, tt)
  sound_more (j ∷ js) i a s = (a.0, sound_more js i a.1 s)

  pub sound_take : (k : ℕ) (l : List ℕ) → AllSound b l → AllSound b (take k l)
  sound_take zero l a = tt
  sound_take (suc k) [] a = tt
  sound_take (suc k) (j ∷ js) a = (a.0, sound_take k js a.1)

  insert_length : (i : ℕ) (l : List ℕ) → length (insert b i l) ≡ suc (length l)
  insert_length i [] = refl
  insert_length i (j ∷ js) = either_way (λ (l : List ℕ). length l ≡ suc (suc (length js))) (ascends b i j) (λ h. refl) (λ h. rw (insert_length i js))

  pub ordered_length : (n : ℕ) → length (ordered b n) ≤ n
  ordered_length zero = omega arith
  ordered_length (suc n) =
      let before = ordered_length n in
      either_way (λ (l : List ℕ). length l ≤ suc n) (first_reason b n =? goes_on) (λ h. omega (arith, insert_length n (ordered b n))) (λ h. omega arith)

  -- one that goes on makes the list one longer
  pub one_more : (n : ℕ) → first_reason b n ≡ goes_on → (ordered b (suc n) ≡ insert b n (ordered b n)) × (length (ordered b (suc n)) ≡ suc (length (ordered b n)))
  one_more n e = rw e (refl, insert_length n (ordered b n))
