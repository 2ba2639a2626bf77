-- What it means that a book passes, as plain facts about numbers, and the converse. Assumes nothing.
use Prim.Native.Nat.{ℕ, zero, suc, ◌+◌, ◌%◌, ◌<◌, ◌≤◌, zero-le}
use mathlib.Core.Bool.{Bool, true, false, not, ◌&&◌, ◌||◌, and-false}
use mathlib.Core.List.{List}
use mathlib.Core.Logic.{◌⊎◌, inl, inr, ⊎_elim}
use native.Mathlib.Nat.{eq-or-lt_of_le, le_refl}
use native.Mathlib.Decide.{le_ind}
use mathlib.Core.Path.{◌≡◌, refl, sym, ◌∙◌}
use lib.Dec.{ltb, leb, eqb}
use lib.ListN.{length}
use borrow.Author.Tests.{ltb-true, ltb-false, leb-true, leb-false, eqb-true, lt-ltb, le-ltb, le-leb, eq-eqb}
use native.Mathlib.Omega.{arith}
use Rattle.base.specs.Limits.{end_of_time}
use Rattle.book_check.specs.Contents.{stated_total, entry_count, entry_at, body_of, size_of, offset_of, start_of, span_of, end_of, block_length}
use Rattle.book_check.specs.Passes.{all_below, pairs_below, longest_book, total_stated, within_limit, body_allowed, size_allowed, times_allowed}
use Rattle.book_check.specs.Passes.{fields_allowed, ascends, apart, block_place, block_follows, nothing_after, coefficients_finite, passes}
use Rattle.book_check.specs.Check.{in_order}
use Rattle.base.proofs.Bools.{both, left, right, clash, is_false}
use Rattle.book_check.proofs.Below.{every, every_back, every_pair, every_pair_back}

-- the fields of entry i
pub record Allowed (b : List ℕ) (i : ℕ) : Type 0 where
  pub body_low : 2 ≤ body_of b i
  pub body_high : body_of b i ≤ 6
  pub size_low : 2 ≤ size_of b i
  pub size_high : size_of b i ≤ 16
  pub span_low : 1 ≤ span_of b i
  pub ends : end_of b i ≤ 3_155_760_000_000

-- entry i before entry j
pub record InOrder (b : List ℕ) (i j : ℕ) : Type 0 where
  pub by_body : body_of b i ≤ body_of b j
  pub by_time : body_of b i ≡ body_of b j → end_of b i ≤ start_of b j

pub record Passing (b : List ℕ) : Type 0 where
  pub stated : length b ≡ stated_total b
  pub limit : length b ≤ 61_440
  pub allowed : (i : ℕ) → i < entry_count b → Allowed b i
  pub ordered : (i j : ℕ) → i < j → j < entry_count b → InOrder b i j
  pub placed : (i : ℕ) → i < entry_count b → offset_of b i ≡ block_place b i
  pub whole : block_place b (entry_count b) ≡ length b
  pub finites : (i : ℕ) → i < entry_count b → coefficients_finite b i ≡ true

two_le : (a b c d : ℕ) → (leb a b && leb c d) ≡ true → (a ≤ b) × (c ≤ d)
two_le a b c d h = (leb-true a b (left (leb a b) (leb c d) h), leb-true c d (right (leb a b) (leb c d) h))

module _ (b : List ℕ) (i : ℕ) where
  pub allowed_of : fields_allowed b i ≡ true → Allowed b i
  allowed_of h =
      let fields = left (body_allowed b i && size_allowed b i) (times_allowed b i) h in
      let body = two_le 2 (body_of b i) (body_of b i) 6 (left (body_allowed b i) (size_allowed b i) fields) in
      let size = two_le 2 (size_of b i) (size_of b i) 16 (right (body_allowed b i) (size_allowed b i) fields) in
      let times = two_le 1 (span_of b i) (end_of b i) end_of_time (right (body_allowed b i && size_allowed b i) (times_allowed b i) h) in
      record { body_low = body.0; body_high = body.1; size_low = size.0; size_high = size.1; span_low = times.0; ends = times.1 }

  pub allowed_back : Allowed b i → fields_allowed b i ≡ true
  allowed_back a =
      both
      (both (both (le-leb _ _ a.body_low) (le-leb _ _ a.body_high)) (both (le-leb _ _ a.size_low) (le-leb _ _ a.size_high)))
      (both (le-leb _ _ a.span_low) (le-leb _ _ a.ends))

-- ---- order, over the bodies p, q, starts s, t and ends e, f of two entries
either : (x y : Bool) → (x || y) ≡ true → (x ≡ true) ⊎ (y ≡ true)
either true y h = inl refl
either false y h = inr h

either_right : (x y : Bool) → y ≡ true → (x || y) ≡ true
either_right true y h = refl
either_right false y h = h

ascend_body : (p q s t : ℕ) → (ltb p q || (eqb p q && ltb s t)) ≡ true → p ≤ q
ascend_body p q s t h =
    ⊎_elim
    (λ l. let m : p < q = ltb-true p q l in omega arith)
    (λ r. let m : p ≡ q = eqb-true p q (left (eqb p q) (ltb s t) r) in omega arith)
    (either (ltb p q) (eqb p q && ltb s t) h)

ascend_time : (p q s t : ℕ) → (ltb p q || (eqb p q && ltb s t)) ≡ true → p ≡ q → s < t
ascend_time p q s t h same =
    ⊎_elim
    (λ l. let m : p < q = ltb-true p q l in omega arith)
    (λ r. ltb-true s t (right (eqb p q) (ltb s t) r))
    (either (ltb p q) (eqb p q && ltb s t) h)

not_all : (x y z : Bool) → x ≡ true → y ≡ true → not (x && y && z) ≡ true → z ≡ false
not_all x y true p q h = absurd (clash h (simp (p, q)))
not_all x y false p q h = refl

end_before : (p q s t e f : ℕ) → p ≡ q → s < f → not (eqb p q && ltb s f && ltb t e) ≡ true → e ≤ t
end_before p q s t e f same lt h = ltb-false t e (not_all (eqb p q) (ltb s f) (ltb t e) (eq-eqb p q same) (lt-ltb s f lt) h)

ascend_back : (p q s t : ℕ) → p ≤ q → (p ≡ q → s < t) → (ltb p q || (eqb p q && ltb s t)) ≡ true
ascend_back p q s t le later =
    ⊎_elim
    (λ e. either_right (ltb p q) _ (both (eq-eqb p q e) (lt-ltb s t (later e))))
    (λ l. simp (lt-ltb p q l))
    (eq-or-lt_of_le le)

ends_apart : (p q s t e f : ℕ) → (p ≡ q → e ≤ t) → not (eqb p q && ltb s f && ltb t e) ≡ true
ends_apart p q s t e f before = by (eqb p q) refl
  where
    by : (x : Bool) → eqb p q ≡ x → not (eqb p q && ltb s f && ltb t e) ≡ true
    by true h = simp (le-ltb t e (before (eqb-true p q h)), h, and-false)
    by false h = simp h

module _ (b : List ℕ) (i j : ℕ) where
  pub in_order_lem : in_order b i j ≡ true → InOrder b i j
  in_order_lem h =
      let up = left (ascends b i j) (apart b i j) h in
      record {
        by_body = ascend_body (body_of b i) (body_of b j) (start_of b i) (start_of b j) up;
        by_time =
            λ same.
            let later : start_of b i < start_of b j = ascend_time (body_of b i) (body_of b j) (start_of b i) (start_of b j) up same in
            end_before (body_of b i) (body_of b j) (start_of b i) (start_of b j) (end_of b i) (end_of b j) same (omega arith)
            (right (ascends b i j) (apart b i j) h);
      }

  pub ascends_back : Allowed b i → InOrder b i j → ascends b i j ≡ true
  ascends_back a o =
      ascend_back _ _ (start_of b i) (start_of b j) o.by_body (λ same. let before = o.by_time same in omega arith)

  pub apart_back : InOrder b i j → apart b i j ≡ true
  apart_back o = ends_apart _ _ (start_of b i) (start_of b j) (end_of b i) (end_of b j) o.by_time

  pub in_order_back : Allowed b i → InOrder b i j → in_order b i j ≡ true
  in_order_back a o = both (ascends_back a o) (apart_back o)

  -- entries of one body: the first one's end and the second one's start decide
  pub in_order_same : Allowed b i → body_of b i ≡ body_of b j → leb (end_of b i) (start_of b j) ≡ in_order b i j
  in_order_same a same = by (leb (end_of b i) (start_of b j)) refl
    where
      by : (x : Bool) → leb (end_of b i) (start_of b j) ≡ x → leb (end_of b i) (start_of b j) ≡ in_order b i j
      by true h = h ∙ sym (in_order_back a (record { by_body = omega arith; by_time = λ _. leb-true (end_of b i) (start_of b j) h }))
      by false h =
          let late : start_of b j < end_of b i = leb-false (end_of b i) (start_of b j) h in
          h ∙ sym (is_false (in_order b i j) (λ o. let before = (in_order_lem o).by_time same in omega arith))

-- ---- the whole book
module _ (b : List ℕ) where
  pub passing : passes b ≡ true → Passing b
  unfolding passes
  passing h =
      let n = entry_count b in
      let p1 = total_stated b && within_limit b in
      let p2 = p1 && all_below n (fields_allowed b) in
      let p3 = p2 && pairs_below n (ascends b) in
      let p4 = p3 && pairs_below n (apart b) in
      let p5 = p4 && all_below n (block_follows b) in
      let p6 = p5 && nothing_after b in
      let h6 : p6 ≡ true = left p6 (all_below n (coefficients_finite b)) h in
      let h5 : p5 ≡ true = left p5 (nothing_after b) h6 in
      let h4 : p4 ≡ true = left p4 (all_below n (block_follows b)) h5 in
      let h3 : p3 ≡ true = left p3 (pairs_below n (apart b)) h4 in
      let h2 : p2 ≡ true = left p2 (pairs_below n (ascends b)) h3 in
      let h1 : p1 ≡ true = left p1 (all_below n (fields_allowed b)) h2 in
      let fields : (i : ℕ) → i < n → Allowed b i = λ i l. allowed_of b i (every n (fields_allowed b) (right p1 (all_below n (fields_allowed b)) h2) i l) in
      record {
        stated = eqb-true (length b) (stated_total b) (left (total_stated b) (within_limit b) h1);
        limit = leb-true (length b) longest_book (right (total_stated b) (within_limit b) h1);
        allowed = fields;
        ordered =
            λ i j l m.
            in_order_lem b i j
            (both
            (every_pair n (ascends b) (right p2 (pairs_below n (ascends b)) h3) i j l m)
            (every_pair n (apart b) (right p3 (pairs_below n (apart b)) h4) i j l m));
        placed = λ i l. eqb-true (offset_of b i) (block_place b i) (every n (block_follows b) (right p4 (all_below n (block_follows b)) h5) i l);
        whole = eqb-true (block_place b n) (length b) (right p5 (nothing_after b) h6);
        finites = every n (coefficients_finite b) (right p6 (all_below n (coefficients_finite b)) h);
      }

  pub passing_back : Passing b → passes b ≡ true
  unfolding passes
  passing_back p =
      let n = entry_count b in
      both
      (both
      (both
      (both
      (both
      (both
      (both (eq-eqb _ _ p.stated) (le-leb _ _ p.limit))
      (every_back n (fields_allowed b) (λ i l. allowed_back b i (p.allowed i l))))
      (every_pair_back n (ascends b) (λ i j l m. ascends_back b i j (p.allowed i (omega arith)) (p.ordered i j l m))))
      (every_pair_back n (apart b) (λ i j l m. apart_back b i j (p.ordered i j l m))))
      (every_back n (block_follows b) (λ i l. eq-eqb _ _ (p.placed i l))))
      (eq-eqb _ _ p.whole))
      (every_back n (coefficients_finite b) p.finites)

  -- ---- the places of the blocks
  pub later_block : (i j : ℕ) → i ≤ j → block_place b i ≤ block_place b j
  later_block i j l = le_ind (λ (m : ℕ). block_place b i ≤ block_place b m) (le_refl _) (λ m _ h. omega (arith, h)) j l

  pub block_inside : Passing b → (i : ℕ) → i < entry_count b → block_place b i + block_length b i ≤ length b
  block_inside p i l = let h = later_block (suc i) (entry_count b) l in let w = p.whole in omega arith

  pub contents_inside : Passing b → entry_at (entry_count b) ≤ length b
  contents_inside p = let h = later_block 0 (entry_count b) zero-le in let w = p.whole in omega arith

  -- contents and blocks come in pieces of 24 bytes after a header of 8
  whole_pieces : (i : ℕ) → block_place b i % 24 ≡ 8
  whole_pieces zero = omega arith
  whole_pieces (suc i) = let h = whole_pieces i in omega arith

  pub passing_length : Passing b → (length b % 24 ≡ 8) × (length b ≤ 61_424)
  passing_length p =
      let e : length b % 24 ≡ 8 = rw (← p.whole) (whole_pieces (entry_count b)) in
      let l = p.limit in
      (e, omega arith)
