-- A book that passes, written anew from all its entries in their order, is itself. Assumes nothing.
use Prim.Native.Nat.{ℕ, zero, suc, ◌+◌, ◌*◌, ◌<◌, ◌≤◌}
use mathlib.Core.List.{List, [], ◌∷◌}
use mathlib.Core.Path.{◌≡◌, refl, sym}
use native.Mathlib.Omega.{arith}
use lib.ListN.{length, length-append}
use lib.Seq.{take_all}
use Rattle.book.specs.Contents.{entry_count, entry_at, block_length}
use Rattle.book.specs.Passes.{block_place}
use Rattle.book.proofs.Passing.{Passing, later_block, contents_inside}
use Rattle.repair_write.specs.Anew.{part, blocks_length, book_length, entry_anew, contents_anew, blocks_anew, book_anew}
use Rattle.repair_write.proofs.Books.{contents_more, blocks_more, blocks_longer}
use Rattle.repair_laws.specs.Laws.{Bytes, up_to}
use Rattle.repair_laws.proofs.Bytes.{parts_join, written_back}

pub up_to_length : (n : ℕ) → length (up_to n) ≡ n
up_to_length zero = refl
up_to_length (suc n) = omega (arith, up_to_length n, length-append (up_to n) (n ∷ []))

module _ (b : List ℕ) (p : Passing b) where
  -- the blocks before entry m, from the end of the contents
  pub blocks_up_to : (m : ℕ) → entry_at (entry_count b) + blocks_length b (up_to m) ≡ block_place b m
  blocks_up_to zero = omega arith
  blocks_up_to (suc m) = omega (arith, blocks_up_to m, blocks_longer b (up_to m) m)

  pub book_up_to : (m : ℕ) → m ≤ entry_count b → book_length b (up_to m) ≤ length b
  book_up_to m h = omega (arith, blocks_up_to m, up_to_length m, later_block b m (entry_count b) h, p.whole)

  pub book_all : book_length b (up_to (entry_count b)) ≡ length b
  book_all = omega (arith, blocks_up_to (entry_count b), up_to_length (entry_count b), p.whole)

  module _ (small : Bytes b) where
    -- an entry whose block keeps its place
    same_entry : (m : ℕ) → m < entry_count b → entry_anew b m (block_place b m) ≡ part b (entry_at m) 24
    same_entry m h =
        let inside = contents_inside b p in
        rw (← p.placed m h, written_back b small (entry_at m + 4) (omega arith), parts_join b (entry_at m) 4 4 (entry_at m + 4) refl)
        (parts_join b (entry_at m) 8 16 (entry_at m + 8) refl)

    same_contents : (m : ℕ) → m ≤ entry_count b → contents_anew b (entry_at (entry_count b)) (up_to m) ≡ part b 8 (24 * m)
    same_contents zero h = refl
    same_contents (suc m) h =
        let more : 24 * m + 24 ≡ 24 * suc m = omega arith in
        rw (contents_more b (entry_at (entry_count b)) (up_to m) m, blocks_up_to m, same_contents m (omega arith), same_entry m h, parts_join b 8 (24 * m) 24 (entry_at m) refl, more)

    same_blocks : (m : ℕ) → m ≤ entry_count b → blocks_anew b (up_to m) ≡ part b (entry_at (entry_count b)) (blocks_length b (up_to m))
    same_blocks zero h = refl
    same_blocks (suc m) h =
        rw (blocks_more b (up_to m) m, blocks_longer b (up_to m) m, same_blocks m (omega arith), p.placed m h)
        (parts_join b (entry_at (entry_count b)) (blocks_length b (up_to m)) (block_length b m) (block_place b m) (sym (blocks_up_to m)))

    pub same_book : book_anew b (up_to (entry_count b)) ≡ b
    unfolding book_anew
    same_book =
        let n = entry_count b in
        let inside = contents_inside b p in
        let whole : 4 + 4 + 24 * n + blocks_length b (up_to n) ≡ length b = omega (arith, blocks_up_to n, p.whole) in
        rw (
          book_all,
          up_to_length n,
          p.stated,
          written_back b small 0 (omega arith),
          written_back b small 4 (omega arith),
          same_contents n (omega arith),
          same_blocks n (omega arith),
          parts_join b 0 4 4 4 (omega arith),
          parts_join b 0 8 (24 * n) 8 (omega arith),
          parts_join b 0 (8 + 24 * n) (blocks_length b (up_to n)) (entry_at n) (omega arith),
        )
        (take_all (8 + 24 * n + blocks_length b (up_to n)) b (omega arith))
