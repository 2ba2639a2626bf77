-- A book that passes comes out byte for byte, with a report of no change, if the output is at least as long. Assumes nothing.
use Prim.Native.Nat.{ℕ, zero, suc, ◌+◌, ◌-◌, ◌<◌, ◌≤◌}
use mathlib.Core.Bool.{Bool, true, false, not}
use mathlib.Core.List.{List, [], ◌∷◌, ◌++◌}
use mathlib.Core.Logic.{⊎_elim}
use mathlib.Core.Path.{◌≡◌, refl, sym, ap, subst, ◌∙◌}
use native.Mathlib.Nat.{eq-or-lt_of_le, le_of_suc-le-suc, not-suc-le-zero}
use native.Mathlib.Omega.{arith}
use lib.ListN.{length, take, get_or, length-set, get_or-append}
use lib.Seq.{get_or_at, get_or-set_same, get_or-set_other, take_all, take-append-le}
use borrow.Author.Tests.{le-leb, lt-ltb, eq-eqb, ne_eqb}
use Rattle.base.specs.Choice.{◌<?◌, ◌=?◌}
use Rattle.book.specs.Contents.{stated_total, entry_count, entry_at, offset_of, block_length}
use Rattle.book.specs.Passes.{ascends, overlaps}
use Rattle.book.proofs.Below.{every_back}
use Rattle.book.proofs.Passing.{Passing, allowed_back, apart_back, block_inside as block_inside_lem, contents_inside}
use Rattle.repair_sort.specs.Fates.{goes_on}
use Rattle.repair_sort.specs.Reasons.{looked_at, block_inside, first_reason, reasons}
use Rattle.repair_sort.specs.Ordered.{insert, ordered}
use Rattle.repair_write.specs.Anew.{blocks_length, book_length, place_anew}
use Rattle.repair_choose.specs.Forward.{Sofar, overlaps_last, overlaps_last_of_body, has_room, settle, forward}
use Rattle.repair_book.specs.Report.{as_in_contents, offsets_stay, changed_of}
use Rattle.repair_book.specs.Repaired.{repaired, kept_of}
use Rattle.repair_sort.proofs.Keys.{not_before_back}
use Rattle.repair_sort.proofs.Inserted.{Sorted, ordered_sorted}
use Rattle.repair_choose.proofs.OwnBody.{own_last}
use Rattle.repair_laws.specs.Laws.{up_to, numbered}
use Rattle.repair_laws.proofs.Whole.{up_to_length, blocks_up_to, book_up_to, book_all}

-- ---- the entries in their own order
pub up_to_at : (n k : ℕ) → k < n → get_or (up_to n) k 0 ≡ k
up_to_at zero k h = absurd (not-suc-le-zero h)
up_to_at (suc n) k h =
    ⊎_elim
    (λ e. rw e (get_or_at (up_to n) n [] 0 n (up_to_length n)))
    (λ l. get_or-append (up_to n) (n ∷ []) 0 k (rw (up_to_length n) l) ∙ up_to_at n k l)
    (eq-or-lt_of_le (le_of_suc-le-suc h))

up_to_front : (n k : ℕ) → k ≤ n → take k (up_to n) ≡ up_to k
up_to_front zero zero h = refl
up_to_front zero (suc k) h = absurd (not-suc-le-zero h)
up_to_front (suc n) k h =
    ⊎_elim
    (λ e. rw e (take_all (suc n) (up_to (suc n)) (omega (arith, up_to_length (suc n)))))
    (λ l. take-append-le k (up_to n) (n ∷ []) (omega (arith, up_to_length n)) ∙ up_to_front n k (le_of_suc-le-suc l))
    (eq-or-lt_of_le h)

-- one that comes before none goes to the end
insert_last : (b : List ℕ) (i : ℕ) (l : List ℕ) → ((k : ℕ) → k < length l → ascends b i (get_or l k 0) ≡ false) → insert b i l ≡ l ++ (i ∷ [])
insert_last b i [] h = refl
insert_last b i (j ∷ js) h = rw (h 0 (omega arith), insert_last b i js (λ k l. h (suc k) (omega arith)))

forward_more : (b : List ℕ) (room : ℕ) (s : Sofar) (l : List ℕ) (i : ℕ) → forward b room s (l ++ (i ∷ [])) ≡ settle b room (forward b room s l) i
forward_more b room s [] i = refl
forward_more b room s (j ∷ js) i = forward_more b room (settle b room s j) js i

module _ (b : List ℕ) (p : Passing b) where
  pub all_looked : looked_at b ≡ entry_count b
  all_looked = let h = contents_inside b p in omega arith

  goes_on_lem : (i : ℕ) → i < entry_count b → first_reason b i ≡ goes_on
  unfolding first_reason
  goes_on_lem i h =
      let inside : block_inside b i ≡ true = le-leb (offset_of b i + block_length b i) (length b) (rw (p.placed i h) (block_inside_lem b p i h)) in
      rw (allowed_back b i (p.allowed i h), inside, p.finites i h)

  later : (i k : ℕ) → i < entry_count b → k < i → ascends b i k ≡ false
  later i k h l =
      let o = p.ordered k i l h in
      let a = p.allowed k (omega arith) in
      not_before_back b i k (record { by_body = o.by_body; by_start = λ e. let t = o.by_time (sym e) in omega arith })

  pub own_order : (n : ℕ) → n ≤ entry_count b → ordered b n ≡ up_to n
  own_order zero h = refl
  own_order (suc n) h =
      rw (goes_on_lem n h, own_order n (omega arith))
      (insert_last b n (up_to n) (λ k l. let m : k < n = rw (up_to_length n) at l in rw (up_to_at n k m) (later n k h m)))

  none_noted : (n : ℕ) (fates : List ℕ) → n ≤ entry_count b → reasons b n fates ≡ fates
  none_noted zero fates h = refl
  none_noted (suc n) fates h = rw (goes_on_lem n h) (none_noted n fates (omega arith))

  apart_from_last : (n : ℕ) → n < entry_count b → overlaps_last b (up_to n) n ≡ false
  apart_from_last zero h = refl
  apart_from_last (suc n) h =
      let l = up_to_length (suc n) in
      let q : length (up_to (suc n)) - 1 ≡ n = omega arith in
      let e : (length (up_to (suc n)) =? 0) ≡ false = ne_eqb (length (up_to (suc n))) 0 (λ z. omega arith) in
      rw (e, q, up_to_at (suc n) n (omega arith)) (not_is (overlaps b n (suc n)) (apart_back b n (suc n) (p.ordered n (suc n) (omega arith) h)))
    where
      not_is : (x : Bool) → not x ≡ true → x ≡ false
      not_is true h = sym h
      not_is false h = refl

  no_overlap : (n : ℕ) → n < entry_count b → overlaps_last_of_body b (up_to n) n ≡ false
  no_overlap n h = sym (own_last b (up_to n) n [] (subst (Sorted b) (own_order (suc n) h) (ordered_sorted b (suc n)))) ∙ apart_from_last n h

  module _ (room : ℕ) (enough : length b ≤ room) (fates : List ℕ) where
    -- the first n entries, each kept under its own number
    pub all_kept : (n : ℕ) → n ≤ entry_count b → forward b room (record { kept = []; fates = fates }) (up_to n) ≡ record { kept = up_to n; fates = numbered n fates }
    unfolding settle
    all_kept zero h = refl
    all_kept (suc n) h =
        let roomy : has_room b room (up_to n) n ≡ true = le-leb (book_length b (up_to (suc n))) room (let l = book_up_to b p (suc n) h in omega arith) in
        forward_more b room (record { kept = []; fates = fates }) (up_to n) n
        ∙ rw (all_kept n (omega arith), no_overlap n h, roomy, up_to_length n)

    pub repaired_whole : repaired b room fates ≡ record { kept = up_to (entry_count b); fates = numbered (entry_count b) fates }
    unfolding repaired
    repaired_whole = rw (all_looked, own_order (entry_count b) (omega arith), none_noted (entry_count b) fates (omega arith)) (all_kept (entry_count b) (omega arith))

  pub kept_whole : (room : ℕ) → length b ≤ room → kept_of b room ≡ up_to (entry_count b)
  kept_whole room h = ap (λ (s : Sofar). s.kept) (repaired_whole room h [])

  -- "with a report of no change"
  pub nothing_changed : changed_of b (up_to (entry_count b)) ≡ record { total = false; count = false; order = false; offsets = false }
  nothing_changed =
      let n = entry_count b in
      let l = up_to_length n in
      let same_total : (book_length b (up_to n) =? stated_total b) ≡ true = eq-eqb (book_length b (up_to n)) (stated_total b) (book_all b p ∙ p.stated) in
      let same_count : (length (up_to n) =? n) ≡ true = eq-eqb (length (up_to n)) n l in
      let rising : as_in_contents (up_to n) ≡ true =
      every_back (length (up_to n) - 1) (λ k. get_or (up_to n) k 0 <? get_or (up_to n) (k + 1) 0)
      (λ k h. rw (up_to_at n k (omega arith), up_to_at n (k + 1) (omega arith)) (lt-ltb k (k + 1) (omega arith)))
      in
      let staying : offsets_stay b (up_to n) ≡ true =
      every_back (length (up_to n)) (λ k. offset_of b (get_or (up_to n) k 0) =? place_anew b (up_to n) k)
      (λ k h.
      let m : k < n = omega arith in
      rw (up_to_at n k m) (eq-eqb (offset_of b k) (place_anew b (up_to n) k) (p.placed k m ∙ sym (blocks_up_to b p k) ∙ sym (place k m))))
      in
      rw (same_total, same_count, rising, staying)
    where
      place : (k : ℕ) → k < entry_count b → place_anew b (up_to (entry_count b)) k ≡ entry_at (entry_count b) + blocks_length b (up_to k)
      place k h = rw (up_to_front (entry_count b) k (omega arith), up_to_length (entry_count b))

  -- the fate of entry k is its own number
  pub outcome_of : (n : ℕ) (fates : List ℕ) → n ≤ length fates → (length (numbered n fates) ≡ length fates) × ((k : ℕ) → k < n → get_or (numbered n fates) k 0 ≡ k)
  outcome_of zero fates h = (refl, λ k l. absurd (not-suc-le-zero l))
  outcome_of (suc n) fates h =
      let t = outcome_of n fates (omega arith) in (
        length-set (numbered n fates) n n ∙ t.0,
        λ k l.
            ⊎_elim
            (λ e. rw e (get_or-set_same (numbered n fates) n n 0 (omega (arith, t.0))))
            (λ m. get_or-set_other (numbered n fates) n k n 0 (λ e. omega arith) ∙ t.1 k m)
            (eq-or-lt_of_le (le_of_suc-le-suc l)),
      )
