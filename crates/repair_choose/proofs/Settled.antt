-- Going forward, one entry at a time, over the arrays that hold the pass. Assumes nothing.
use Prim.Native.Nat.{ℕ, ◌+◌, ◌-◌, ◌<◌, ◌≤◌}
use mathlib.Core.Bool.{Bool, true, false}
use mathlib.Core.List.{List, [], ◌∷◌, ◌++◌}
use mathlib.Core.Path.{◌≡◌, refl, sym, ap, ◌∙◌}
use native.Mathlib.Numerals.{add-one}
use native.Mathlib.Omega.{arith}
use lib.ListN.{length, take, drop, get_or, set, length-set, drop_of_length-le}
use lib.Seq.{take-suc-set, drop-cons, length-take-le, get_or-take, get_or-set_same}
use borrow.Author.Tests.{le-leb, lt-leb, eqb-false}
use Rattle.book.specs.Contents.{block_length}
use Rattle.repair_sort.specs.Fates.{overlapping, no_room}
use Rattle.repair_write.specs.Anew.{book_length}
use Rattle.base.specs.Choice.{if◌then◌otherwise◌, ◌=?◌}
use Rattle.repair_choose.specs.Forward.{Sofar, overlaps_last, overlaps_last_of_body, has_room, keep, let_go, settle, forward}
use Rattle.repair_choose.specs.LastKept.{settle_by_last, forward_by_last}
use Rattle.repair_sort.specs.Held.{Sound}
use Rattle.repair_choose.specs.Sized.{held, Sized, overlaps_at}
use Rattle.repair_sort.proofs.Sounds.{sound_at, sound_more}
use Rattle.repair_write.proofs.Books.{book_longer}

module _ (b kept fates : List ℕ) (room count i : ℕ) where
  pub settled_overlap : overlaps_last b (take count kept) i ≡ true → held kept count (set fates i overlapping) ≡ settle_by_last b room (held kept count fates) i
  unfolding settle_by_last
  settled_overlap e = rw e

  pub settled_no_room : overlaps_last b (take count kept) i ≡ false → room < book_length b (take count kept) + 24 + block_length b i
      → held kept count (set fates i no_room) ≡ settle_by_last b room (held kept count fates) i
  unfolding settle_by_last
  settled_no_room e l =
      let none : has_room b room (take count kept) i ≡ false = lt-leb (book_length b (take count kept ++ (i ∷ []))) room (omega (arith, book_longer b (take count kept) i)) in
      rw (e, none)

  module _ (lt : count < length kept) where
    front : length (take count kept) ≡ count
    front = length-take-le count kept (omega arith)

    one_further : take (count + 1) (set kept count i) ≡ take count kept ++ (i ∷ [])
    one_further = rw (add-one count) (take-suc-set kept count i lt)

    pub settled_kept : overlaps_last b (take count kept) i ≡ false → book_length b (take count kept) + 24 + block_length b i ≤ room
        → held (set kept count i) (count + 1) (set fates i count) ≡ settle_by_last b room (held kept count fates) i
    unfolding settle_by_last
    settled_kept e l =
        let some : has_room b room (take count kept) i ≡ true = le-leb (book_length b (take count kept ++ (i ∷ []))) room (omega (arith, book_longer b (take count kept) i)) in
        rw (e, some, one_further, front)

    pub sized_kept : (last booked longer : ℕ) → Sized b room kept count last booked → Sound b i → longer ≡ booked + 24 + block_length b i
        → longer ≤ room → Sized b room (set kept count i) (count + 1) i longer
    sized_kept last booked longer z s e l =
        let here : count + 1 - 1 ≡ count = omega arith in
        record {
          counted = simp length-set (omega arith);
          latest = λ h. rw here (sym (get_or-set_same kept count i 0 lt));
          sound = rw one_further (sound_more b (take count kept) i z.sound s);
          long = rw one_further (omega (arith, book_longer b (take count kept) i, z.long));
          fits = l;
        }

-- the last kept entry, as the arrays hold it
module _ (b kept : List ℕ) (room count last booked : ℕ) (z : Sized b room kept count last booked) where
  pub last_sound_lem : 0 < count → Sound b last
  last_sound_lem h =
      let f : length (take count kept) ≡ count = length-take-le count kept z.counted in
      rw (z.latest h, ← get_or-take count kept (count - 1) 0 (omega arith)) (sound_at b (take count kept) z.sound (count - 1) (omega arith))

  pub last_kept : (i : ℕ) → overlaps_at b count last i ≡ overlaps_last b (take count kept) i
  last_kept i = by (count =? 0) refl
    where
      f : length (take count kept) ≡ count
      f = length-take-le count kept z.counted

      by : (x : Bool) → (count =? 0) ≡ x → overlaps_at b count last i ≡ overlaps_last b (take count kept) i
      by true e = rw (f, e)
      by false e =
          let n = eqb-false count 0 e in
          rw (f, e, z.latest (omega arith), get_or-take count kept (count - 1) 0 (omega arith))

module _ (b : List ℕ) (room : ℕ) where
  pub one_forward : (s after : Sofar) (order : List ℕ) (k : ℕ) (end : Sofar) → k < length order → after ≡ settle_by_last b room s (get_or order k 0)
      → forward_by_last b room s (drop k order) ≡ end → forward_by_last b room after (drop (k + 1) order) ≡ end
  one_forward s after order k end l e f = rw (add-one k, e) (sym (ap (λ (r : List ℕ). forward_by_last b room s r) (drop-cons order k 0 l)) ∙ f)

  pub all_forward : (s : Sofar) (order : List ℕ) (k : ℕ) (end : Sofar) → length order ≤ k → forward_by_last b room s (drop k order) ≡ end → s ≡ end
  all_forward s order k end l f = sym (ap (λ (r : List ℕ). forward_by_last b room s r) (drop_of_length-le order l)) ∙ f

-- ---- which entries are kept does not depend on the fates
module _ (b : List ℕ) (room : ℕ) where
  kept_by : List ℕ → ℕ → List ℕ
  kept_by kept i = if overlaps_last_of_body b kept i then kept otherwise if has_room b room kept i then kept ++ (i ∷ []) otherwise kept

  settle_kept : (s : Sofar) (i : ℕ) → (settle b room s i).kept ≡ kept_by s.kept i
  unfolding settle kept_by
  settle_kept s i = by (overlaps_last_of_body b s.kept i) (has_room b room s.kept i)
    where
      by : (x y : Bool) → (if x then let_go overlapping s i otherwise if y then keep s i otherwise let_go no_room s i).kept ≡ (if x then s.kept otherwise if y then s.kept ++ (i ∷ []) otherwise s.kept)
      by true y = refl
      by false true = refl
      by false false = refl

  pub kept_free : (s t : Sofar) (l : List ℕ) → s.kept ≡ t.kept → (forward b room s l).kept ≡ (forward b room t l).kept
  kept_free s t [] e = e
  kept_free s t (i ∷ is) e = kept_free (settle b room s i) (settle b room t i) is (settle_kept s i ∙ ap (λ (k : List ℕ). kept_by k i) e ∙ sym (settle_kept t i))
