-- The book of the kept entries, entry after entry: what one more entry adds. Assumes nothing.
use Prim.Native.Nat.{ℕ, zero, suc, ◌+◌, ◌*◌, ◌<◌, ◌≤◌}
use mathlib.Core.List.{List, [], ◌∷◌, ◌++◌, append_assoc, append-nil}
use mathlib.Core.Path.{◌≡◌, refl, sym, ap, ◌∙◌}
use native.Mathlib.Nat.{add-zero, add_assoc}
use native.Mathlib.Omega.{arith}
use lib.ListN.{length, take, drop, get_or, length-append}
use native.Mathlib.Numerals.{add-one}
use lib.Seq.{take-suc, length-take-le}
use Rattle.book.specs.Contents.{entry_at, block_length}
use Rattle.repair_write.specs.Anew.{part, le32, blocks_length, book_length, entry_anew, contents_anew, block_bytes, blocks_anew, with_text}
use Rattle.repair_sort.specs.Held.{AllSound}
use Rattle.repair_write.proofs.Texts.{part_length, le32_length, joined}
use Rattle.repair_sort.proofs.Sounds.{sound_at, sound_take}

module _ (b : List ℕ) where
  pub blocks_longer : (l : List ℕ) (i : ℕ) → blocks_length b (l ++ (i ∷ [])) ≡ blocks_length b l + block_length b i
  blocks_longer [] i = omega arith
  blocks_longer (j ∷ js) i = omega (arith, blocks_longer js i)

  pub book_longer : (l : List ℕ) (i : ℕ) → book_length b (l ++ (i ∷ [])) ≡ book_length b l + 24 + block_length b i
  book_longer l i = omega (arith, blocks_longer l i, length-append l (i ∷ []))

  pub contents_more : (place : ℕ) (l : List ℕ) (i : ℕ) → contents_anew b place (l ++ (i ∷ [])) ≡ contents_anew b place l ++ entry_anew b i (place + blocks_length b l)
  contents_more place [] i = append-nil (entry_anew b i place) ∙ ap (λ (p : ℕ). entry_anew b i p) (sym (add-zero place))
  contents_more place (j ∷ js) i =
      ap (λ (r : List ℕ). entry_anew b j place ++ r)
      (contents_more (place + block_length b j) js i ∙ ap (λ (p : ℕ). contents_anew b (place + block_length b j) js ++ entry_anew b i p) (add_assoc place (block_length b j) (blocks_length b js)))
      ∙ sym (append_assoc (entry_anew b j place) (contents_anew b (place + block_length b j) js) (entry_anew b i (place + blocks_length b (j ∷ js))))

  pub blocks_more : (l : List ℕ) (i : ℕ) → blocks_anew b (l ++ (i ∷ [])) ≡ blocks_anew b l ++ block_bytes b i
  blocks_more [] i = append-nil (block_bytes b i)
  blocks_more (j ∷ js) i = ap (λ (r : List ℕ). block_bytes b j ++ r) (blocks_more js i) ∙ sym (append_assoc (block_bytes b j) (blocks_anew b js) (block_bytes b i))

  pub entry_length : (i place : ℕ) → entry_at i + 24 ≤ length b → length (entry_anew b i place) ≡ 24
  entry_length i place h =
      omega (
        arith,
        length-append (part b (entry_at i) 4 ++ le32 place) (part b (entry_at i + 8) 16),
        length-append (part b (entry_at i) 4) (le32 place),
        part_length b (entry_at i) 4 (omega arith),
        part_length b (entry_at i + 8) 16 (omega arith),
        le32_length place,
      )

  pub contents_length : (place : ℕ) (l : List ℕ) → AllSound b l → length (contents_anew b place l) ≡ 24 * length l
  contents_length place [] a = refl
  contents_length place (i ∷ is) a =
      omega (
        arith,
        length-append (entry_anew b i place) (contents_anew b (place + block_length b i) is),
        entry_length i place a.0.inside,
        contents_length (place + block_length b i) is a.1,
      )

  pub blocks_length_lem : (l : List ℕ) → AllSound b l → length (blocks_anew b l) ≡ blocks_length b l
  blocks_length_lem [] a = refl
  blocks_length_lem (i ∷ is) a =
      omega (
        arith,
        length-append (block_bytes b i) (blocks_anew b is),
        part_length b _ (block_length b i) a.0.block,
        blocks_length_lem is a.1,
      )

  -- the blocks before k, block k and those after it
  pub blocks_split : (l : List ℕ) (k : ℕ) → k < length l → blocks_length b l ≡ blocks_length b (take k l) + block_length b (get_or l k 0) + blocks_length b (drop (suc k) l)
  blocks_split [] k h = absurd (omega arith)
  blocks_split (i ∷ is) zero h = omega arith
  blocks_split (i ∷ is) (suc k) h = omega (arith, blocks_split is k (omega arith))

  pub blocks_before : (l : List ℕ) (k : ℕ) → k < length l → blocks_length b (take (suc k) l) ≡ blocks_length b (take k l) + block_length b (get_or l k 0)
  blocks_before l k h = ap (λ (r : List ℕ). blocks_length b r) (take-suc l k 0 h) ∙ blocks_longer (take k l) (get_or l k 0)

  pub place_inside : (l : List ℕ) (k : ℕ) → k < length l → entry_at (length l) + blocks_length b (take k l) + block_length b (get_or l k 0) ≤ book_length b l
  place_inside l k h = omega (arith, blocks_split l k h)

  module _ (kept : List ℕ) (sound : AllSound b kept) (k : ℕ) (lt : k < length kept) where
    front : length (take k kept) ≡ k
    front = length-take-le k kept (omega arith)

    further : take (k + 1) kept ≡ take k kept ++ (get_or kept k 0 ∷ [])
    further = rw (add-one k) (take-suc kept k 0 lt)

    pub place_further : blocks_length b (take (k + 1) kept) ≡ blocks_length b (take k kept) + block_length b (get_or kept k 0)
    place_further = rw further (blocks_longer (take k kept) (get_or kept k 0))

    -- one more entry of the contents is written
    pub entry_written : (out₀ : List ℕ) {out after : List ℕ} {place : ℕ} → book_length b kept ≤ length out₀
        → place ≡ entry_at (length kept) + blocks_length b (take k kept) → out ≡ with_text out₀ 8 (contents_anew b (entry_at (length kept)) (take k kept))
        → after ≡ with_text out (8 + 24 * k) (entry_anew b (get_or kept k 0) place) → after ≡ with_text out₀ 8 (contents_anew b (entry_at (length kept)) (take (k + 1) kept))
    entry_written out₀ {out} {after} {place} room p o a =
        let long : length (contents_anew b (entry_at (length kept)) (take k kept)) ≡ 24 * k =
        contents_length (entry_at (length kept)) (take k kept) (sound_take b k kept sound) ∙ ap (λ (n : ℕ). 24 * n) front in
        let wide = entry_length (get_or kept k 0) place (sound_at b kept sound k lt).inside in
        rw (further, contents_more (entry_at (length kept)) (take k kept) (get_or kept k 0), ← p)
        (joined out₀ (contents_anew b (entry_at (length kept)) (take k kept)) (entry_anew b (get_or kept k 0) place) 8 (8 + 24 * k) o a (omega arith) (omega arith))

    -- one more block is written
    pub block_written : (out₀ : List ℕ) {out after : List ℕ} {place : ℕ} → book_length b kept ≤ length out₀
        → place ≡ entry_at (length kept) + blocks_length b (take k kept) → out ≡ with_text out₀ (entry_at (length kept)) (blocks_anew b (take k kept))
        → after ≡ with_text out place (block_bytes b (get_or kept k 0)) → after ≡ with_text out₀ (entry_at (length kept)) (blocks_anew b (take (k + 1) kept))
    block_written out₀ {out} {after} {place} room p o a =
        let long = blocks_length_lem (take k kept) (sound_take b k kept sound) in
        let wide : length (block_bytes b (get_or kept k 0)) ≡ block_length b (get_or kept k 0) = part_length b _ _ (sound_at b kept sound k lt).block in
        let inside = place_inside kept k lt in
        rw (further, blocks_more (take k kept) (get_or kept k 0)) (joined out₀ (blocks_anew b (take k kept)) (block_bytes b (get_or kept k 0)) (entry_at (length kept)) place o a (omega arith) (omega arith))
