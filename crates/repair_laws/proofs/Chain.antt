-- The entries kept are in order, and those of one body do not overlap. Assumes nothing.
use Prim
use Prim.Native.Nat.{ℕ, suc, ◌-◌, ◌<◌, ◌≤◌}
use mathlib.Core.Bool.{Bool, true, false, ◌&&◌}
use mathlib.Core.List.{List, [], ◌∷◌, ◌++◌}
use mathlib.Core.Logic.{⊎_elim}
use mathlib.Core.Path.{◌≡◌, refl, sym, ap, ◌∙◌}
use native.Mathlib.Nat.{eq-or-lt_of_le, le_of_suc-le-suc}
use native.Mathlib.Omega.{arith}
use lib.ListN.{length, get_or, length-append, get_or-append}
use lib.Seq.{get_or_at}
use borrow.Author.Tests.{ltb-false, lt-ltb, eq-eqb, ne_eqb, leb-true}
use Rattle.base.specs.Choice.{if◌then◌otherwise◌, ◌<?◌, ◌=?◌}
use Rattle.book.specs.Contents.{body_of, start_of, end_of}
use Rattle.book.specs.Passes.{ascends, overlaps}
use Rattle.book.proofs.Passing.{InOrder, allowed_of}
use Rattle.repair_write.specs.Anew.{book_length}
use Rattle.repair_choose.specs.Forward.{Sofar, overlaps_last_of_body, has_room, keep, let_go, settle, forward}
use Rattle.repair_sort.specs.Reasons.{looked_at}
use Rattle.repair_sort.specs.Ordered.{ordered}
use Rattle.repair_sort.specs.Held.{Sound, AllSound}
use Rattle.repair_sort.proofs.Sounds.{ordered_sound, sound_more, sound_at}
use Rattle.repair_sort.proofs.Keys.{not_before}
use Rattle.repair_sort.proofs.Inserted.{Sorted, ordered_sorted}
use Rattle.repair_choose.proofs.OwnBody.{none_before, sorted_without, sorted_with, own_last}

not_third : (x y z : Bool) → (x && y && z) ≡ false → x ≡ true → y ≡ true → z ≡ false
not_third x y true h p q = rw (p, q) at h
not_third x y false h p q = refl

module _ (b : List ℕ) where
  -- i does not come before j, and does not overlap it
  next_to : (j i : ℕ) → Sound b j → Sound b i → ascends b i j ≡ false → overlaps b j i ≡ false → InOrder b j i
  next_to j i sj si n o =
      let k = not_before b i j n in
      let a = allowed_of b i si.fields in
      record {
        by_body = k.by_body;
        by_time =
            λ same.
            let later = k.by_start (sym same) in
            let long = a.span_low in
            ltb-false (start_of b i) (end_of b j)
            (not_third (body_of b j =? body_of b i) (start_of b j <? end_of b i) (start_of b i <? end_of b j) o (eq-eqb (body_of b j) (body_of b i) same) (lt-ltb (start_of b j) (end_of b i) (omega arith)));
      }

  -- each kept entry before the next, all sound, and the rest in order after them
  pub record Chained (room : ℕ) (kept rest : List ℕ) : Type 0 where
    pub links : (k : ℕ) → suc k < length kept → InOrder b (get_or kept k 0) (get_or kept (suc k) 0)
    pub sound : AllSound b kept
    pub sorted : Sorted b (kept ++ rest)
    pub sounds : AllSound b rest
    pub fits : book_length b kept ≤ room

  none_chained : (room : ℕ) (rest : List ℕ) → 8 ≤ room → Sorted b rest → AllSound b rest → Chained room [] rest
  none_chained room rest h s a =
      record { links = λ k l. absurd (omega arith); sound = tt; sorted = s; sounds = a; fits = omega arith }

  module _ (room : ℕ) (kept : List ℕ) (i : ℕ) (rest : List ℕ) (c : Chained room kept (i ∷ rest)) where
    pub let_gone : Chained room kept rest
    let_gone = record { links = c.links; sound = c.sound; sorted = sorted_without b kept i rest c.sorted; sounds = c.sounds.1; fits = c.fits }

    longer : length (kept ++ (i ∷ [])) ≡ suc (length kept)
    longer = omega (arith, length-append kept (i ∷ []))

    newest : get_or (kept ++ (i ∷ [])) (length kept) 0 ≡ i
    newest = get_or_at kept i [] 0 (length kept) refl

    older : (k : ℕ) → k < length kept → get_or (kept ++ (i ∷ [])) k 0 ≡ get_or kept k 0
    older k h = get_or-append kept (i ∷ []) 0 k h

    last_link : overlaps_last_of_body b kept i ≡ false → (k : ℕ) → suc k ≡ length kept → InOrder b (get_or kept k 0) i
    last_link o k e =
        let p : length kept - 1 ≡ k = omega arith in
        let n : (length kept =? 0) ≡ false = ne_eqb (length kept) 0 (λ z. omega arith) in
        let free : overlaps b (get_or kept k 0) i ≡ false = rw (← p) (rw n at (own_last b kept i rest c.sorted ∙ o)) in
        let none : ascends b i (get_or kept k 0) ≡ false = none_before b kept i rest c.sorted k (omega arith) in
        next_to (get_or kept k 0) i (sound_at b kept c.sound k (omega arith)) c.sounds.0 none free

    pub one_kept : overlaps_last_of_body b kept i ≡ false → book_length b (kept ++ (i ∷ [])) ≤ room → Chained room (kept ++ (i ∷ [])) rest
    one_kept o r =
        record {
          links =
              λ k l.
              ⊎_elim
              (λ e. rw (older k (omega (arith, longer)), ap (λ (n : ℕ). get_or (kept ++ (i ∷ [])) n 0) e ∙ newest) (last_link o k e))
              (λ lt. rw (older k (omega arith), older (suc k) lt) (c.links k lt))
              (eq-or-lt_of_le (le_of_suc-le-suc (rw longer at l)));
          sound = sound_more b kept i c.sound c.sounds.0;
          sorted = sorted_with b kept i rest c.sorted;
          sounds = c.sounds.1;
          fits = r;
        }

  -- one entry more is settled
  pub settled_chained : (room : ℕ) (s : Sofar) (i : ℕ) (rest : List ℕ) → Chained room s.kept (i ∷ rest) → Chained room (settle b room s i).kept rest
  unfolding settle
  settled_chained room s i rest c = by (overlaps_last_of_body b s.kept i) (has_room b room s.kept i) refl refl
    where
      by : (x y : Bool) → overlaps_last_of_body b s.kept i ≡ x → has_room b room s.kept i ≡ y → Chained room (if x then let_go 3_004 s i otherwise if y then keep s i otherwise let_go 3_005 s i).kept rest
      by true y e f = let_gone room s.kept i rest c
      by false true e f = one_kept room s.kept i rest c e (leb-true (book_length b (s.kept ++ (i ∷ []))) room f)
      by false false e f = let_gone room s.kept i rest c

  -- some more entries, with others after them
  pub forward_through : (room : ℕ) (s : Sofar) (l rest : List ℕ) → Chained room s.kept (l ++ rest) → Chained room (forward b room s l).kept rest
  forward_through room s [] rest c = c
  forward_through room s (i ∷ is) rest c = forward_through room (settle b room s i) is rest (settled_chained room s i (is ++ rest) c)

-- none kept yet, and all the entries that go on ahead
pub start_chained : (b : List ℕ) (room : ℕ) → 8 ≤ length b → 8 ≤ room → Chained b room [] (ordered b (looked_at b))
start_chained b room input enough = none_chained b room (ordered b (looked_at b)) enough (ordered_sorted b (looked_at b)) (ordered_sound b (looked_at b) (omega arith))
