-- The tests of `holds_answer`, as facts about entries, and the converse. Assumes nothing.
use Prim.Native.Nat.{ℕ, zero, suc, ◌+◌, ◌*◌, ◌<◌}
use mathlib.Core.Bool.{Bool, true, false, not, ◌&&◌, ◌||◌}
use mathlib.Core.List.{List}
use mathlib.Core.Logic.{⊎_elim}
use mathlib.Core.Path.{◌≡◌, refl, sym, ap, subst}
use native.Mathlib.Nat.{eq-or-lt_of_le, le_of_suc-le-suc, not-suc-le-zero}
use native.Mathlib.Omega.{arith}
use lib.Dec.{eqb}
use borrow.Author.Tests.{eqb-true, eq-eqb}
use Rattle.std.specs.Prelude.{Some, None}
use Rattle.base.proofs.Bools.{both, left, right, or_right, is_false, clash}
use Rattle.base_bytes.specs.Bytes.{u64_at}
use Rattle.book.specs.Contents.{entry_count, body_of, size_of, offset_of, start_of, span_of}
use Rattle.book.proofs.Below.{every, every_back}
use Rattle.book.proofs.Found.{first_none, first_only, first_at}
use Rattle.book_holds.proofs.First.{none_meets, none_before}
use Rattle.book_holds.specs.Holds.{Copied, HasCopy, HoldsAll}
use Rattle.book_holds.specs.Answer.{some_below, same_coefficients, is_copy, holds_entry, first_missing}

kept : (y : Bool) → (y || false) ≡ true → y ≡ true
kept true h = refl
kept false h = h

-- ---- some number below n
pub record Below (n : ℕ) (test : ℕ → Bool) : Type 0 where
  pub at : ℕ
  pub below : at < n
  pub meets : test at ≡ true

pub some : (n : ℕ) (test : ℕ → Bool) → some_below n test ≡ true → Below n test
some zero test h = let z : ◌≡◌ {A = ℕ} 0 1 = cc in absurd (omega arith)
some (suc n) test h = by (test n) refl (some n test) h
  where
    by : (x : Bool) → test n ≡ x → (some_below n test ≡ true → Below n test) → (some_below n test || x) ≡ true → Below (suc n) test
    by true e earlier h = record { at = n; below = omega arith; meets = e }
    by false e earlier h = let s = earlier (kept (some_below n test) h) in record { at = s.at; below = let l = s.below in omega arith; meets = s.meets }

or_left : (x y : Bool) → x ≡ true → (x || y) ≡ true
or_left x y h = simp h

pub some_back : (n : ℕ) (test : ℕ → Bool) (k : ℕ) → k < n → test k ≡ true → some_below n test ≡ true
some_back zero test k l h = absurd (not-suc-le-zero l)
some_back (suc n) test k l h =
    ⊎_elim
    (λ e. or_right (some_below n test) (test n) (subst (λ (m : ℕ). test m ≡ true) e h))
    (λ lt. or_left (some_below n test) (test n) (some_back n test k lt h))
    (eq-or-lt_of_le (le_of_suc-le-suc l))

-- ---- one entry
module _ (b c : List ℕ) (i j : ℕ) where
  pub copied : is_copy b c i j ≡ true → Copied b c i j
  copied h =
      let p1 = eqb (body_of c j) (body_of b i) in
      let p2 = p1 && eqb (size_of c j) (size_of b i) in
      let p3 = p2 && eqb (start_of c j) (start_of b i) in
      let p4 = p3 && eqb (span_of c j) (span_of b i) in
      let h4 : p4 ≡ true = left p4 (same_coefficients b c i j) h in
      let h3 : p3 ≡ true = left p3 (eqb (span_of c j) (span_of b i)) h4 in
      let h2 : p2 ≡ true = left p2 (eqb (start_of c j) (start_of b i)) h3 in
      record {
        body = eqb-true (body_of c j) (body_of b i) (left p1 (eqb (size_of c j) (size_of b i)) h2);
        size = eqb-true (size_of c j) (size_of b i) (right p1 (eqb (size_of c j) (size_of b i)) h2);
        start = eqb-true (start_of c j) (start_of b i) (right p2 (eqb (start_of c j) (start_of b i)) h3);
        span = eqb-true (span_of c j) (span_of b i) (right p3 (eqb (span_of c j) (span_of b i)) h4);
        bits =
            λ k l.
            eqb-true (u64_at c (offset_of c j + 8 * k)) (u64_at b (offset_of b i + 8 * k))
            (every (3 * size_of b i) (λ k. eqb (u64_at c (offset_of c j + 8 * k)) (u64_at b (offset_of b i + 8 * k))) (right p4 (same_coefficients b c i j) h) k l);
      }

  pub copied_back : Copied b c i j → is_copy b c i j ≡ true
  copied_back e =
      both
      (both (both (both (eq-eqb _ _ e.body) (eq-eqb _ _ e.size)) (eq-eqb _ _ e.start)) (eq-eqb _ _ e.span))
      (every_back (3 * size_of b i) (λ k. eqb (u64_at c (offset_of c j + 8 * k)) (u64_at b (offset_of b i + 8 * k))) (λ k l. eq-eqb _ _ (e.bits k l)))

-- ---- one entry of the first book, and the whole second
module _ (b c : List ℕ) where
  pub has_copy : (i : ℕ) → holds_entry b c i ≡ true → HasCopy b c i
  has_copy i h = let s = some (entry_count c) (is_copy b c i) h in (s.at, s.below, copied b c i s.at s.meets)

  pub has_copy_back : (i : ℕ) → HasCopy b c i → holds_entry b c i ≡ true
  has_copy_back i h = some_back (entry_count c) (is_copy b c i) h.0 h.1 (copied_back b c i h.0 h.2)

  held_test : (i : ℕ) → HasCopy b c i → not (holds_entry b c i) ≡ false
  held_test i h = ap not (has_copy_back i h)

  missing_test : (i : ℕ) → (HasCopy b c i → ⊥) → not (holds_entry b c i) ≡ true
  missing_test i h = ap not (is_false (holds_entry b c i) (λ e. h (has_copy i e)))

  -- ---- which entry is missing first
  pub none_missing : HoldsAll b c → first_missing b c ≡ None
  unfolding first_missing
  none_missing h = first_none (entry_count b) (λ i. not (holds_entry b c i)) (λ k l. held_test k (h k l))

  pub missing_at : (i : ℕ) → i < entry_count b → (HasCopy b c i → ⊥) → ((k : ℕ) → k < i → HasCopy b c k) → first_missing b c ≡ Some i
  unfolding first_missing
  missing_at i l h before = first_only (entry_count b) (λ i. not (holds_entry b c i)) i l (missing_test i h) (λ k m. held_test k (before k m))

  -- and what it says, if it is known
  held_of : (i : ℕ) → not (holds_entry b c i) ≡ false → HasCopy b c i
  held_of i h = has_copy i (by (holds_entry b c i) h)
    where
      by : (x : Bool) → not x ≡ false → x ≡ true
      by true h = refl
      by false h = sym h

  missing_of : (i : ℕ) → not (holds_entry b c i) ≡ true → HasCopy b c i → ⊥
  missing_of i h copy = clash h (held_test i copy)

  pub none_missing_back : first_missing b c ≡ None → HoldsAll b c
  unfolding first_missing
  none_missing_back e i l = held_of i (none_meets (entry_count b) (λ i. not (holds_entry b c i)) e i l)

  pub record FirstAt (i : ℕ) : Type 0 where
    pub inside : i < entry_count b
    pub not_held_lem : HasCopy b c i → ⊥
    pub held_before : (k : ℕ) → k < i → HasCopy b c k

  pub missing_at_back : (i : ℕ) → first_missing b c ≡ Some i → FirstAt i
  unfolding first_missing
  missing_at_back i e =
      let test : ℕ → Bool = λ i. not (holds_entry b c i) in
      let m = first_at (entry_count b) test i e in
      record {
        inside = m.below;
        not_held_lem = missing_of i m.meets;
        held_before = λ k l. held_of k (none_before (entry_count b) test i e k l);
      }
