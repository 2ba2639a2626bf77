-- A text at a place of a list, and numbers read from it. Assumes nothing.
use Prim.Native.Nat.{ℕ, zero, suc, ◌+◌, ◌*◌, ◌/◌, ◌%◌, ◌<◌, ◌≤◌}
use mathlib.Core.List.{List, [], ◌∷◌, ◌++◌}
use mathlib.Core.Path.{◌≡◌, sym, ap, ◌∙◌}
use native.Mathlib.Nat.{add-zero, add_assoc}
use native.Mathlib.Omega.{arith}
use lib.ListN.{length, take, drop, get_or, length-append, get_or-append}
use lib.Seq.{get_or-append-add, get_or-take, get_or-drop}
use Rattle.base_bytes.specs.Bytes.{u16_at, u32_at, u64_at}
use Rattle.book.specs.Contents.{block_length}
use Rattle.repair_write.specs.Anew.{part, le32, blocks_length, entry_anew, contents_anew, block_bytes, blocks_anew}
use Rattle.repair_sort.specs.Held.{AllSound}
use Rattle.repair_write.proofs.Texts.{part_length}
use Rattle.repair_write.proofs.Books.{entry_length}

-- from `at` on, w reads as the text
pub Stands : List ℕ → ℕ → List ℕ → Type 0
Stands w at text = (j : ℕ) → j < length text → get_or w (at + j) 0 ≡ get_or text j 0

-- from `at` on, w reads as b from `from` on, for n bytes
pub Same : List ℕ → ℕ → List ℕ → ℕ → ℕ → Type 0
Same w at b from n = (j : ℕ) → j < n → get_or w (at + j) 0 ≡ get_or b (from + j) 0

module _ (w : List ℕ) (at : ℕ) (t u : List ℕ) where
  pub stands_left : Stands w at (t ++ u) → Stands w at t
  unfolding Stands
  stands_left s j h = s j (omega (arith, length-append t u)) ∙ get_or-append t u 0 j h

  pub stands_right : (next : ℕ) → next ≡ at + length t → Stands w at (t ++ u) → Stands w next u
  unfolding Stands
  stands_right next e s j h =
      let place : next + j ≡ at + (length t + j) = omega arith in
      ap (λ (k : ℕ). get_or w k 0) place ∙ s (length t + j) (omega (arith, length-append t u)) ∙ get_or-append-add t u j 0

pub stands_whole : (w : List ℕ) → Stands w 0 w
unfolding Stands
stands_whole w j h = ap (λ (k : ℕ). get_or w k 0) (omega arith)

pub same_part : (w b : List ℕ) (at from n : ℕ) → from + n ≤ length b → Stands w at (part b from n) → Same w at b from n
unfolding Stands Same
same_part w b at from n h s j l = s j (omega (arith, part_length b from n h)) ∙ get_or-take n (drop from b) j 0 l ∙ get_or-drop from b j 0

module _ (w b : List ℕ) (at from n : ℕ) (same : Same w at b from n) where
  byte : (o : ℕ) → o < n → (p q : ℕ) → p ≡ at + o → q ≡ from + o → get_or w p 0 ≡ get_or b q 0
  unfolding Same
  byte o h p q e f = ap (λ (k : ℕ). get_or w k 0) e ∙ same o h ∙ ap (λ (k : ℕ). get_or b k 0) (sym f)

  pub same_u16 : (o p q : ℕ) → o + 2 ≤ n → p ≡ at + o → q ≡ from + o → u16_at w p ≡ u16_at b q
  unfolding u16_at
  same_u16 o p q h e f = rw (byte o (omega arith) p q e f, byte (o + 1) (omega arith) (p + 1) (q + 1) (omega arith) (omega arith))

  pub same_u32 : (o p q : ℕ) → o + 4 ≤ n → p ≡ at + o → q ≡ from + o → u32_at w p ≡ u32_at b q
  unfolding u32_at
  same_u32 o p q h e f = rw (same_u16 o p q (omega arith) e f, same_u16 (o + 2) (p + 2) (q + 2) (omega arith) (omega arith) (omega arith))

  pub same_u64 : (o p q : ℕ) → o + 8 ≤ n → p ≡ at + o → q ≡ from + o → u64_at w p ≡ u64_at b q
  unfolding u64_at
  same_u64 o p q h e f = rw (same_u32 o p q (omega arith) e f, same_u32 (o + 4) (p + 4) (q + 4) (omega arith) (omega arith) (omega arith))

-- a number that was written is read
pub read_back : (w : List ℕ) (at n : ℕ) → n < 4_294_967_296 → Stands w at (le32 n) → u32_at w at ≡ n
unfolding Stands le32 u32_at u16_at
read_back w at n l s =
    let a : get_or w at 0 ≡ n % 256 = ap (λ (k : ℕ). get_or w k 0) (sym (add-zero at)) ∙ s 0 (omega arith) in
    let b : get_or w (at + 1) 0 ≡ n / 256 % 256 = s 1 (omega arith) in
    let c : get_or w (at + 2) 0 ≡ n / 256 / 256 % 256 = s 2 (omega arith) in
    let d : get_or w (at + 2 + 1) 0 ≡ n / 256 / 256 / 256 % 256 = ap (λ (k : ℕ). get_or w k 0) (add_assoc at 2 1) ∙ s 3 (omega arith) in
    omega arith

module _ (b w : List ℕ) where
  -- entry k of contents at some place
  pub entry_stands : (kept : List ℕ) (at place k : ℕ) → AllSound b kept → k < length kept → Stands w at (contents_anew b place kept)
      → Stands w (at + 24 * k) (entry_anew b (get_or kept k 0) (place + blocks_length b (take k kept)))
  entry_stands [] at place k a h s = absurd (omega arith)
  entry_stands (i ∷ is) at place zero a h s =
      let e : at + 24 * 0 ≡ at = omega arith in
      rw (e, add-zero place) (stands_left w at (entry_anew b i place) (contents_anew b (place + block_length b i) is) s)
  entry_stands (i ∷ is) at place (suc k) a h s =
      let e : at + 24 * suc k ≡ at + 24 + 24 * k = omega arith in
      rw (e, ← add_assoc place (block_length b i) (blocks_length b (take k is)))
      (entry_stands is (at + 24) (place + block_length b i) k a.1 (omega arith)
      (stands_right w at (entry_anew b i place) (contents_anew b (place + block_length b i) is) (at + 24) (omega (arith, entry_length b i place a.0.inside)) s))

  -- block k of blocks at some place
  pub block_stands : (kept : List ℕ) (at k : ℕ) → AllSound b kept → k < length kept → Stands w at (blocks_anew b kept) → Stands w (at + blocks_length b (take k kept)) (block_bytes b (get_or kept k 0))
  block_stands [] at k a h s = absurd (omega arith)
  block_stands (i ∷ is) at zero a h s = rw (add-zero at) (stands_left w at (block_bytes b i) (blocks_anew b is) s)
  block_stands (i ∷ is) at (suc k) a h s =
      rw (← add_assoc at (block_length b i) (blocks_length b (take k is)))
      (block_stands is (at + block_length b i) k a.1 (omega arith)
      (stands_right w at (block_bytes b i) (blocks_anew b is) (at + block_length b i) (omega (arith, part_length b _ (block_length b i) a.0.block)) s))
