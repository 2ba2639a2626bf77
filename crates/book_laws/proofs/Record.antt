-- What happens during the night: a record is added at its place. The book that is written from the same records and one more (R-10's
-- writer) holds every entry of the book that is written without it. Assumes nothing.
use mathlib.Core.List.{List, [], ◌∷◌, ◌++◌}
use mathlib.Core.Path.{◌≡◌, refl, sym, ap, ◌∙◌}
use Prim.Native.Nat.{ℕ, zero, suc, ◌*◌, ◌<◌, ◌≤◌}
use native.Mathlib.Omega.{arith}
use lib.ListN.{length, get_or}
use Rattle.book.specs.Contents.{entry_count}
use Rattle.repair_sort.specs.Held.{AllSound}
use Rattle.repair_write.specs.Anew.{blocks_length, book_length, book_anew}
use Rattle.book_holds.specs.Holds.{Copied}
use Rattle.repair_laws.proofs.Written.{counted, copied}
use Rattle.book_laws.specs.Fuller.{HoldsAll}

-- two copies of one entry are copies of each other
pub both_copied : (b v w : List ℕ) (i k j : ℕ) → Copied b v i k → Copied b w i j → Copied v w k j
both_copied b v w i k j one two =
    record {
      body = two.body ∙ sym one.body;
      size = two.size ∙ sym one.size;
      start = two.start ∙ sym one.start;
      span = two.span ∙ sym one.span;
      bits = λ n h. let s = one.size in let l : n < 3 * Rattle.book.specs.Contents.size_of b i = omega arith in two.bits n l ∙ sym (one.bits n l);
    }

module _ (b : List ℕ) (i : ℕ) (back : List ℕ) where
  sound_without : (front : List ℕ) → AllSound b (front ++ i ∷ back) → AllSound b (front ++ back)
  sound_without [] s = s.1
  sound_without (x ∷ front) s = (s.0, sound_without front s.1)

  shorter : (front : List ℕ) → (length (front ++ i ∷ back) ≡ suc (length (front ++ back))) × (blocks_length b (front ++ back) ≤ blocks_length b (front ++ i ∷ back))
  shorter [] = (refl, omega arith)
  shorter (x ∷ front) = let s = shorter front in (ap suc s.0, let l = s.1 in omega arith)

  -- the place of a record, with the new one among them
  pub record Shifted (front : List ℕ) (k : ℕ) : Type 0 where
    pub at : ℕ
    pub inside : at < length (front ++ i ∷ back)
    pub is : get_or (front ++ i ∷ back) at 0 ≡ get_or (front ++ back) k 0

  shift : (front : List ℕ) (k : ℕ) → k < length (front ++ back) → Shifted front k
  shift [] k h = record { at = suc k; inside = omega arith; is = refl }
  shift (x ∷ front) zero h = record { at = 0; inside = omega arith; is = refl }
  shift (x ∷ front) (suc k) h =
      let s = shift front k (omega arith) in
      record { at = suc s.at; inside = let l = s.inside in omega arith; is = s.is }

  module _ (front : List ℕ) (sound : AllSound b (front ++ i ∷ back)) (room : book_length b (front ++ i ∷ back) ≤ 61_440) where
    fits : book_length b (front ++ back) ≤ 61_440
    fits = let s = shorter front in let one = s.0 in let l = s.1 in omega arith

    -- "Records are added during the night"
    pub added : HoldsAll (book_anew b (front ++ back)) (book_anew b (front ++ i ∷ back))
    added k h =
        let few : k < length (front ++ back) = let n = counted b (front ++ back) (sound_without front sound) fits in omega arith in
        let s = shift front k few in
        let here : s.at < entry_count (book_anew b (front ++ i ∷ back)) =
        let n = counted b (front ++ i ∷ back) sound room in let l = s.inside in omega arith in
        let one = copied b (front ++ back) (sound_without front sound) fits k few in
        let two = copied b (front ++ i ∷ back) sound room s.at s.inside in (
          s.at,
          here,
          both_copied b (book_anew b (front ++ back)) (book_anew b (front ++ i ∷ back)) (get_or (front ++ back) k 0) k s.at one
              (mathlib.Core.Path.subst (λ (n : ℕ). Copied b (book_anew b (front ++ i ∷ back)) n s.at) s.is two),
        )

-- every book holds its own entries, and those of the first book are held night after night
pub own : (b : List ℕ) → HoldsAll b b
own b i h = (i, h, record { body = refl; size = refl; start = refl; span = refl; bits = λ k l. refl })

pub night_after_night : (b c d : List ℕ) → HoldsAll b c → HoldsAll c d → HoldsAll b d
night_after_night b c d one two i h =
    let x = one i h in
    let y = two x.0 x.1 in
    let p = x.2 in
    let q = y.2 in (
      y.0,
      y.1,
      record {
        body = q.body ∙ p.body;
        size = q.size ∙ p.size;
        start = q.start ∙ p.start;
        span = q.span ∙ p.span;
        bits = λ k l. let s = p.size in let m : k < 3 * Rattle.book.specs.Contents.size_of c x.0 = omega arith in q.bits k m ∙ p.bits k l;
      },
    )
