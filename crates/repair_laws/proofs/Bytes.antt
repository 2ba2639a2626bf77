-- Bytes: adjacent parts of a list, numbers written as they were read; what is written is bytes. Assumes nothing.
use Prim.Native.Nat.{ℕ, zero, suc, ◌+◌, ◌-◌, ◌*◌, ◌/◌, ◌%◌, ◌<◌, ◌≤◌}
use mathlib.Core.List.{List, [], ◌∷◌, ◌++◌}
use mathlib.Core.Bool.{Bool, true, false}
use mathlib.Core.Logic.{◌⊎◌, inl, inr, ⊎_elim}
use mathlib.Core.Path.{◌≡◌, refl, sym}
use native.Mathlib.Omega.{arith}
use lib.ListN.{length, take, drop, get_or, length-take, get_or-append, get_or-eq_default}
use lib.Seq.{drop-cons, drop-drop, take-add, get_or-append-add, get_or-take, get_or-drop}
use borrow.Author.Tests.{ltb-true, ltb-false}
use lib.Dec.{ltb}
use Rattle.base_bytes.specs.Bytes.{u16_at, u32_at}
use Rattle.repair_write.specs.Anew.{part, le32, book_length, entry_anew, contents_anew, blocks_anew, book_anew}
use Rattle.book.specs.Contents.{entry_at, offset_of, block_length}
use Rattle.repair_laws.specs.Laws.{Bytes}

lowest : (a m : ℕ) → a < 256 → (a + 256 * m) % 256 ≡ a
lowest a m h = omega arith

others : (a m : ℕ) → a < 256 → (a + 256 * m) / 256 ≡ m
others a m h = omega arith

four_written : (a c d e n : ℕ) → a < 256 → c < 256 → d < 256 → e < 256 → n ≡ a + 256 * (c + 256 * (d + 256 * e)) → le32 n ≡ a ∷ c ∷ d ∷ e ∷ []
unfolding le32
four_written a c d e n ha hc hd he q =
    let last : e % 256 ≡ e = omega arith in
    rw (q, others a (c + 256 * (d + 256 * e)) ha, others c (d + 256 * e) hc, others d e hd, lowest a (c + 256 * (d + 256 * e)) ha, lowest c (d + 256 * e) hc, lowest d e hd, last)

module _ (b : List ℕ) where
  -- two parts, the second right after the first
  pub parts_join : (at n m next : ℕ) → next ≡ at + n → part b at n ++ part b next m ≡ part b at (n + m)
  parts_join at n m next e = rw (e, ← drop-drop n at b) (sym (take-add n m (drop at b)))

  four : (at : ℕ) → at + 4 ≤ length b → part b at 4 ≡ get_or b at 0 ∷ get_or b (suc at) 0 ∷ get_or b (suc (suc at)) 0 ∷ get_or b (suc (suc (suc at))) 0 ∷ []
  four at h = rw (drop-cons b at 0 (omega arith), drop-cons b (suc at) 0 (omega arith), drop-cons b (suc (suc at)) 0 (omega arith), drop-cons b (suc (suc (suc at))) 0 (omega arith))

  read : (at : ℕ) → at + 1 ≡ suc at → at + 2 ≡ suc (suc at) → at + 2 + 1 ≡ suc (suc (suc at))
      → u32_at b at ≡ get_or b at 0 + 256 * (get_or b (suc at) 0 + 256 * (get_or b (suc (suc at)) 0 + 256 * get_or b (suc (suc (suc at))) 0))
  unfolding u32_at u16_at
  read at one two three = rw (three, two, one) (omega arith)

  -- a number that was read is written with the same bytes
  pub written_back : Bytes b → (at : ℕ) → at + 4 ≤ length b → le32 (u32_at b at) ≡ part b at 4
  written_back small at h =
      let one : at + 1 ≡ suc at = omega arith in
      let two : at + 2 ≡ suc (suc at) = omega arith in
      let three : at + 2 + 1 ≡ suc (suc (suc at)) = omega arith in
      rw (four at h)
      (four_written (get_or b at 0) (get_or b (suc at) 0) (get_or b (suc (suc at)) 0) (get_or b (suc (suc (suc at))) 0) (u32_at b at) (small at)
      (small (suc at)) (small (suc (suc at))) (small (suc (suc (suc at)))) (read at one two three))

below_or_not : (k n : ℕ) → (k < n) ⊎ (n ≤ k)
below_or_not k n = by (ltb k n) refl
  where
    by : (x : Bool) → ltb k n ≡ x → (k < n) ⊎ (n ≤ k)
    by true e = inl (ltb-true k n e)
    by false e = inr (ltb-false k n e)

pub bytes_append : (t u : List ℕ) → Bytes t → Bytes u → Bytes (t ++ u)
bytes_append t u p q k =
    ⊎_elim
    (λ l. rw (get_or-append t u 0 k l) (p k))
    (λ l.
    let e : length t + (k - length t) ≡ k = omega arith in
    rw (← e, get_or-append-add t u (k - length t) 0) (q (k - length t)))
    (below_or_not k (length t))

pub bytes_part : (b : List ℕ) (at n : ℕ) → Bytes b → Bytes (part b at n)
bytes_part b at n p k =
    ⊎_elim
    (λ l. rw (get_or-take n (drop at b) k 0 l, get_or-drop at b k 0) (p (at + k)))
    (λ l. rw (get_or-eq_default (take n (drop at b)) 0 {n = k} (omega (arith, length-take n (drop at b)))) (omega arith))
    (below_or_not k n)

pub bytes_le32 : (n : ℕ) → Bytes (le32 n)
unfolding le32
bytes_le32 n zero = omega arith
bytes_le32 n (suc zero) = omega arith
bytes_le32 n (suc (suc zero)) = omega arith
bytes_le32 n (suc (suc (suc zero))) = omega arith
bytes_le32 n (suc (suc (suc (suc k)))) = omega arith

module _ (b : List ℕ) (small : Bytes b) where
  bytes_contents : (place : ℕ) (l : List ℕ) → Bytes (contents_anew b place l)
  bytes_contents place [] k = omega arith
  bytes_contents place (i ∷ is) k =
      bytes_append (entry_anew b i place) (contents_anew b (place + block_length b i) is)
      (bytes_append (part b (entry_at i) 4 ++ le32 place) (part b (entry_at i + 8) 16)
      (bytes_append (part b (entry_at i) 4) (le32 place) (bytes_part b (entry_at i) 4 small) (bytes_le32 place)) (bytes_part b (entry_at i + 8) 16 small))
      (bytes_contents (place + block_length b i) is)
      k

  bytes_blocks : (l : List ℕ) → Bytes (blocks_anew b l)
  bytes_blocks [] k = omega arith
  bytes_blocks (i ∷ is) k = bytes_append (part b (offset_of b i) (block_length b i)) (blocks_anew b is) (bytes_part b (offset_of b i) (block_length b i) small) (bytes_blocks is) k

  pub bytes_anew : (kept : List ℕ) → Bytes (book_anew b kept)
  unfolding book_anew
  bytes_anew kept =
      let total = le32 (book_length b kept) in
      let count = le32 (length kept) in
      let contents = contents_anew b (entry_at (length kept)) kept in
      bytes_append (total ++ count ++ contents) (blocks_anew b kept)
      (bytes_append (total ++ count) contents (bytes_append total count (bytes_le32 (book_length b kept)) (bytes_le32 (length kept))) (bytes_contents (entry_at (length kept)) kept))
      (bytes_blocks kept)
