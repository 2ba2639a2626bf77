-- Texts written at places of a buffer, one after the other. Assumes nothing.
use Prim.Native.Nat.{ℕ, ◌+◌, ◌/◌, ◌≤◌}
use mathlib.Core.List.{List, [], ◌++◌, append_assoc, append-nil}
use mathlib.Core.Path.{◌≡◌, refl, sym, ap, ◌∙◌}
use native.Mathlib.Nat.{add-zero, add_assoc}
use native.Mathlib.Omega.{arith}
use lib.ListN.{length, take, drop, length-append, length-drop, take-append-drop}
use lib.Seq.{length-take-le, take_at, drop-append-add, drop-drop, paste}
use borrow.Rule.Slice.PartMut.{put_mid}
use mir.Syntax.{w32}
use Rattle.std.specs.Int.{to_le_bytes}
use Rattle.std.proofs.lemmas.Slice.{put_mid-paste}
use Rattle.repair_write.specs.Anew.{part, le32, with_text}

module _ (d : List ℕ) (at : ℕ) where
  pub no_text : with_text d at [] ≡ d
  no_text = ap (λ (k : ℕ). take at d ++ [] ++ drop k d) (add-zero at) ∙ ap (λ (r : List ℕ). r ++ drop at d) (append-nil (take at d)) ∙ take-append-drop at d

  front : (t : List ℕ) → at + length t ≤ length d → length (take at d ++ t) ≡ at + length t
  front t h = length-append (take at d) t ∙ ap (λ (k : ℕ). k + length t) (length-take-le at d (omega arith))

  pub text_length : (t : List ℕ) → at + length t ≤ length d → length (with_text d at t) ≡ length d
  text_length t h = omega (arith, length-append (take at d ++ t) (drop (at + length t) d), front t h, length-drop (at + length t) d)

  -- one text, and from its end another
  pub text_more : (t u : List ℕ) (next : ℕ) → next ≡ at + length t → next + length u ≤ length d → with_text (with_text d at t) next u ≡ with_text d at (t ++ u)
  text_more t u next e h =
      let f : length (take at d ++ t) ≡ next = front t (omega arith) ∙ sym e in
      let back : drop (next + length u) (take at d ++ t ++ drop (at + length t) d) ≡ drop (at + length (t ++ u)) d =
      ap (λ (k : ℕ). drop (k + length u) (take at d ++ t ++ drop (at + length t) d)) (sym f)
      ∙ drop-append-add (take at d ++ t) (drop (at + length t) d) (length u)
      ∙ drop-drop (length u) (at + length t) d
      ∙ ap (λ (k : ℕ). drop k d) (add_assoc at (length t) (length u) ∙ ap (λ (k : ℕ). at + k) (sym (length-append t u)))
      in
      ap (λ (r : List ℕ). r ++ u ++ drop (next + length u) (with_text d at t)) (take_at (take at d ++ t) (drop (at + length t) d) next f)
      ∙ ap (λ (r : List ℕ). take at d ++ t ++ u ++ r) back
      ∙ ap (λ (r : List ℕ). r ++ drop (at + length (t ++ u)) d) (append_assoc (take at d) t u)

-- the same, as two stores come one after the other
pub joined : (d t u : List ℕ) (at next : ℕ) {e f : List ℕ} → e ≡ with_text d at t → f ≡ with_text e next u → next ≡ at + length t → next + length u ≤ length d → f ≡ with_text d at (t ++ u)
joined d t u at next {e} {f} p q m h = q ∙ ap (λ (x : List ℕ). with_text x next u) p ∙ text_more d at t u next m h

pub part_length : (b : List ℕ) (at n : ℕ) → at + n ≤ length b → length (part b at n) ≡ n
part_length b at n h = length-take-le n (drop at b) (omega (arith, length-drop at b))

pub text_copied : (d b : List ℕ) (at from n : ℕ) → from + n ≤ length b → paste d at (drop from b) n ≡ with_text d at (part b from n)
text_copied d b at from n h = ap (λ (k : ℕ). take at d ++ part b from n ++ drop (at + k) d) (sym (part_length b from n h))

pub le32_length : (n : ℕ) → length (le32 n) ≡ 4
unfolding le32
le32_length n = refl

-- the four bytes of a number stored in a part of the buffer
le32_bytes : (n : ℕ) → to_le_bytes w32 n ≡ le32 n
unfolding le32
le32_bytes n =
    let third : n / 65_536 ≡ n / 256 / 256 = omega arith in
    let last : n / 16_777_216 ≡ n / 256 / 256 / 256 = omega arith in
    rw (third, last)

pub four_bytes : (d ys : List ℕ) (at k n : ℕ) → k ≡ 4 → ys ≡ to_le_bytes w32 n → put_mid at k d ys ≡ with_text d at (le32 n)
unfolding le32
four_bytes d ys at k n h e = put_mid-paste at k d ys (le32 n) 4 (e ∙ le32_bytes n) (sym h) refl
