-- The check goes entry by entry and compares each entry with the next one only. These laws prove that it decides document 01's conditions.
-- Assumes nothing.
use Prim.Native.Nat.{ℕ, zero, suc, ◌+◌, ◌<◌, ◌≤◌}
use mathlib.Core.Bool.{Bool, true, false, ◌&&◌}
use mathlib.Core.List.{List}
use mathlib.Core.Logic.{⊎_elim}
use native.Mathlib.Nat.{eq-or-lt_of_le, le_of_suc-le-suc, not-suc-le-zero}
use native.Mathlib.Numerals.{add-one}
use borrow.Author.Count.{below_more}
use mathlib.Core.Path.{◌≡◌, refl, sym, ◌∙◌}
use lib.Dec.{ltb, leb, eqb}
use lib.ListN.{length}
use borrow.Author.Tests.{ltb-true, leb-true, eqb-true, eqb-false, lt-ltb, le-leb, eq-eqb}
use native.Mathlib.Omega.{arith}
use Rattle.book_check.specs.Contents.{stated_total, entry_count, offset_of, block_length}
use Rattle.book_check.specs.Passes.{fields_allowed, block_place, coefficients_finite, passes}
use Rattle.book_check.specs.Check.{entry_holds, next_in_order}
use Rattle.base.proofs.Bools.{both, left, right, is_false}
use Rattle.book_check.proofs.Passing.{Allowed, InOrder, Passing, passing, passing_back, allowed_of, allowed_back, in_order_lem, in_order_back, block_inside}

module _ (b : List ℕ) where
  -- the entries below n, each compared with the next one only
  pub record Checked (n : ℕ) : Type 0 where
    pub allowed : (i : ℕ) → i < n → Allowed b i
    pub next : (i : ℕ) → i < n → suc i < entry_count b → InOrder b i (suc i)
    pub placed : (i : ℕ) → i < n → offset_of b i ≡ block_place b i
    pub finites : (i : ℕ) → i < n → coefficients_finite b i ≡ true

  -- neighbours in order are all in order
  pub lifted : Checked (entry_count b) → (i j : ℕ) → i < j → j < entry_count b → InOrder b i j
  lifted k i zero l m = absurd (not-suc-le-zero l)
  lifted k i (suc j) l m =
      ⊎_elim
      (λ e. rw e (k.next j (omega arith) m))
      (λ lt.
      let o = lifted k i j lt (omega arith) in
      let near = k.next j (omega arith) m in
      let a = k.allowed j (omega arith) in
      record {
        by_body = omega arith;
        by_time =
            λ same.
            let t = o.by_time (omega arith) in
            let u = near.by_time (omega arith) in
            omega arith;
      })
      (eq-or-lt_of_le (le_of_suc-le-suc l))

-- ---- one turn of the check
pub record Held (b : List ℕ) (i place : ℕ) : Type 0 where
  pub fields : fields_allowed b i ≡ true
  pub placed : offset_of b i ≡ place
  pub inside : place + block_length b i ≤ length b
  pub finites : coefficients_finite b i ≡ true

module _ (b : List ℕ) (i place : ℕ) where
  pub held : entry_holds b i place ≡ true → Held b i place
  held h =
      let p1 = fields_allowed b i in
      let p2 = p1 && eqb (offset_of b i) place in
      let p3 = p2 && leb (place + block_length b i) (length b) in
      let h3 : p3 ≡ true = left p3 (coefficients_finite b i) h in
      let h2 : p2 ≡ true = left p2 (leb (place + block_length b i) (length b)) h3 in
      record {
        fields = left p1 (eqb (offset_of b i) place) h2;
        placed = eqb-true (offset_of b i) place (right p1 (eqb (offset_of b i) place) h2);
        inside = leb-true (place + block_length b i) (length b) (right p2 (leb (place + block_length b i) (length b)) h3);
        finites = right p3 (coefficients_finite b i) h;
      }

  pub held_back : Held b i place → entry_holds b i place ≡ true
  held_back t = both (both (both t.fields (eq-eqb _ _ t.placed)) (le-leb _ _ t.inside)) t.finites

module _ (b : List ℕ) where
  pub passing_holds : Passing b → (i : ℕ) → i < entry_count b → entry_holds b i (block_place b i) ≡ true
  passing_holds p i l =
      held_back b i (block_place b i)
      (record { fields = allowed_back b i (p.allowed i l); placed = p.placed i l; inside = block_inside b p i l; finites = p.finites i l })

  pub passing_next : Passing b → (i : ℕ) → i < entry_count b → next_in_order b i (entry_count b) ≡ true
  passing_next p i l = by (ltb (i + 1) (entry_count b)) refl
    where
      by : (x : Bool) → ltb (i + 1) (entry_count b) ≡ x → next_in_order b i (entry_count b) ≡ true
      by true h = simp h (in_order_back b i (i + 1) (p.allowed i l) (p.ordered i (i + 1) (omega arith) (ltb-true (i + 1) (entry_count b) h)))
      by false h = simp h

  pub none_checked : Checked b 0
  none_checked =
      record {
        allowed = λ i l. absurd (not-suc-le-zero l);
        next = λ i l m. absurd (not-suc-le-zero l);
        placed = λ i l. absurd (not-suc-le-zero l);
        finites = λ i l. absurd (not-suc-le-zero l);
      }

  next_told : (i : ℕ) → next_in_order b i (entry_count b) ≡ true → suc i < entry_count b → InOrder b i (suc i)
  next_told i h l =
      let m : i + 1 < entry_count b = omega arith in
      rw (← add-one) (in_order_lem b i (i + 1) (simp (lt-ltb (i + 1) (entry_count b) m) at h))

  pub one_more : (i : ℕ) → Checked b i → Held b i (block_place b i) → next_in_order b i (entry_count b) ≡ true → Checked b (i + 1)
  one_more i k t n =
      record {
        allowed = below_more (λ j. Allowed b j) i k.allowed (allowed_of b i t.fields);
        next = below_more (λ j. suc j < entry_count b → InOrder b j (suc j)) i k.next (next_told i n);
        placed = below_more (λ j. offset_of b j ≡ block_place b j) i k.placed t.placed;
        finites = below_more (λ j. coefficients_finite b j ≡ true) i k.finites t.finites;
      }

  -- with every entry checked, the length decides
  pub by_length : length b ≡ stated_total b → length b ≤ 61_440 → Checked b (entry_count b) → eqb (block_place b (entry_count b)) (length b) ≡ passes b
  by_length stated limit k = by (eqb (block_place b (entry_count b)) (length b)) refl
    where
      by : (x : Bool) → eqb (block_place b (entry_count b)) (length b) ≡ x → eqb (block_place b (entry_count b)) (length b) ≡ passes b
      by true h =
          h ∙
          sym
          (passing_back b
          (record {
            stated = stated;
            limit = limit;
            allowed = k.allowed;
            ordered = lifted b k;
            placed = k.placed;
            whole = eqb-true (block_place b (entry_count b)) (length b) h;
            finites = k.finites;
          }))
      by false h = h ∙ sym (is_false (passes b) (λ p. eqb-false (block_place b (entry_count b)) (length b) h (passing b p).whole))
