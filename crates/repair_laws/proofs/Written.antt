-- What is written passes, and each of its entries is one of the input's. Assumes nothing.
use Prim.Native.Nat.{ℕ, zero, suc, ◌+◌, ◌*◌, ◌<◌, ◌≤◌}
use mathlib.Core.Bool.{true}
use mathlib.Core.List.{List, [], ◌++◌, append-nil}
use mathlib.Core.Path.{◌≡◌, refl, sym, ap, ◌∙◌}
use native.Mathlib.Omega.{arith}
use lib.ListN.{length, get_or, length-append}
use lib.Seq.{take-length}
use lib.Ieee.{binary64, of_bits}
use lib.Ieee.Scale.{finite}
use borrow.Author.Tests.{eq-eqb}
use Rattle.book.specs.Contents.{stated_total, entry_count, entry_at, size_of, offset_of, block_length, coefficient}
use Rattle.book.specs.Passes.{block_place, coefficients_finite, passes}
use Rattle.book.proofs.Below.{every, every_back}
use Rattle.book.proofs.Passing.{Allowed, InOrder, allowed_of}
use Rattle.book.proofs.Checked.{Checked, by_length}
use Rattle.repair_sort.specs.Reasons.{looked_at, reasons}
use Rattle.repair_sort.specs.Ordered.{ordered}
use Rattle.repair_write.specs.Anew.{part, le32, blocks_length, book_length, entry_anew, contents_anew, blocks_anew, book_anew, place_anew}
use Rattle.repair_sort.specs.Held.{Sound, AllSound}
use Rattle.repair_book.specs.Repaired.{repaired, kept_of}
use Rattle.repair_write.proofs.Texts.{part_length, le32_length}
use Rattle.repair_write.proofs.Books.{contents_length, blocks_length_lem, place_inside, blocks_before}
use Rattle.repair_sort.proofs.Sounds.{sound_at}
use Rattle.book_holds.specs.Holds.{Copied}
use Rattle.repair_laws.proofs.Stands.{Stands, Same, stands_left, stands_right, stands_whole, same_part, same_u16, same_u64, read_back, entry_stands, block_stands}
use Rattle.repair_laws.proofs.Chain.{Chained, start_chained, forward_through}

module _ (b kept : List ℕ) (sound : AllSound b kept) (limit : book_length b kept ≤ 61_440) where
  w : List ℕ
  w = book_anew b kept

  total : List ℕ
  total = le32 (book_length b kept)

  count : List ℕ
  count = le32 (length kept)

  contents : List ℕ
  contents = contents_anew b (entry_at (length kept)) kept

  -- ---- the places of the four parts
  parts : Stands w 0 (total ++ count ++ contents ++ blocks_anew b kept)
  unfolding w total count contents book_anew
  parts = stands_whole (book_anew b kept)

  four : length total ≡ 4
  unfolding total
  four = le32_length (book_length b kept)

  eight : length (total ++ count) ≡ 8
  unfolding count
  eight = omega (arith, four, le32_length (length kept), length-append total count)

  long : length contents ≡ 24 * length kept
  unfolding contents
  long = contents_length b (entry_at (length kept)) kept sound

  all_contents : length (total ++ count ++ contents) ≡ entry_at (length kept)
  all_contents = omega (arith, eight, long, length-append (total ++ count) contents)

  pub book_length_lem : length (book_anew b kept) ≡ book_length b kept
  unfolding w total count contents book_anew
  book_length_lem = omega (arith, all_contents, blocks_length_lem b kept sound, length-append (total ++ count ++ contents) (blocks_anew b kept))

  front : Stands w 0 (total ++ count ++ contents)
  front = stands_left w 0 (total ++ count ++ contents) (blocks_anew b kept) parts

  head : Stands w 0 (total ++ count)
  head = stands_left w 0 (total ++ count) contents front

  pub stated : stated_total (book_anew b kept) ≡ book_length b kept
  unfolding w total
  stated = read_back w 0 (book_length b kept) (omega arith) (stands_left w 0 total count head)

  pub counted : entry_count (book_anew b kept) ≡ length kept
  unfolding w count
  counted = read_back w 4 (length kept) (omega arith) (stands_right w 0 total count 4 (omega (arith, four)) head)

  -- ---- entry k
  module _ (k : ℕ) (l : k < length kept) where
    i : ℕ
    i = get_or kept k 0

    s : Sound b (get_or kept k 0)
    s = sound_at b kept sound k l

    place : ℕ
    place = place_anew b kept k

    entry : Stands w (entry_at k) (entry_anew b (get_or kept k 0) (place_anew b kept k))
    unfolding contents
    entry = entry_stands b w kept 8 (entry_at (length kept)) k sound l (stands_right w 0 (total ++ count) contents 8 (omega (arith, eight)) front)

    four_and_offset : Stands w (entry_at k) (part b (entry_at i) 4 ++ le32 place)
    unfolding i place
    four_and_offset = stands_left w (entry_at k) (part b (entry_at i) 4 ++ le32 place) (part b (entry_at i + 8) 16) entry

    first : length (part b (entry_at i) 4) ≡ 4
    unfolding i
    first = let h = s.inside in part_length b (entry_at i) 4 (omega arith)

    fields : Same w (entry_at k) b (entry_at i) 4
    unfolding i
    fields = let h = s.inside in same_part w b (entry_at k) (entry_at i) 4 (omega arith) (stands_left w (entry_at k) (part b (entry_at i) 4) (le32 place) four_and_offset)

    pub offset : offset_of (book_anew b kept) k ≡ place_anew b kept k
    unfolding w place
    offset =
        read_back w (entry_at k + 4) (place_anew b kept k) (let h = place_inside b kept k l in omega arith)
        (stands_right w (entry_at k) (part b (entry_at i) 4) (le32 place) (entry_at k + 4) (omega (arith, first)) four_and_offset)

    times : Same w (entry_at k + 8) b (entry_at i + 8) 16
    unfolding i place
    times =
        let h = s.inside in
        same_part w b (entry_at k + 8) (entry_at i + 8) 16 (omega arith)
        (stands_right w (entry_at k) (part b (entry_at i) 4 ++ le32 place) (part b (entry_at i + 8) 16) (entry_at k + 8)
        (omega (arith, first, le32_length place, length-append (part b (entry_at i) 4) (le32 place))) entry)

    block : Same w (place_anew b kept k) b (offset_of b (get_or kept k 0)) (block_length b (get_or kept k 0))
    block =
        same_part w b (place_anew b kept k) (offset_of b (get_or kept k 0)) (block_length b (get_or kept k 0)) s.block
        (block_stands b w kept (entry_at (length kept)) k sound l
        (stands_right w 0 (total ++ count ++ contents) (blocks_anew b kept) (entry_at (length kept)) (omega (arith, all_contents)) parts))

    -- every kept entry's fields and coefficients are the input's bits
    pub copied : Copied b (book_anew b kept) (get_or kept k 0) k
    unfolding w i
    copied =
        record {
          body = same_u16 w b (entry_at k) (entry_at i) 4 fields 0 (entry_at k) (entry_at i) (omega arith) (omega arith) (omega arith);
          size = same_u16 w b (entry_at k) (entry_at i) 4 fields 2 (entry_at k + 2) (entry_at i + 2) (omega arith) refl refl;
          start = same_u64 w b (entry_at k + 8) (entry_at i + 8) 16 times 0 (entry_at k + 8) (entry_at i + 8) (omega arith) (omega arith) (omega arith);
          span = same_u64 w b (entry_at k + 8) (entry_at i + 8) 16 times 8 (entry_at k + 16) (entry_at i + 16) (omega arith) (omega arith) (omega arith);
          bits =
              λ j h.
              rw offset
              (same_u64 w b (place_anew b kept k) (offset_of b i) (block_length b i) block (8 * j) (place_anew b kept k + 8 * j) (offset_of b i + 8 * j) (omega arith) refl refl);
        }

    pub allowed : Allowed (book_anew b kept) k
    allowed =
        let c = copied in
        let a = allowed_of b (get_or kept k 0) s.fields in
        record {
          body_low = rw c.body a.body_low;
          body_high = rw c.body a.body_high;
          size_low = rw c.size a.size_low;
          size_high = rw c.size a.size_high;
          span_low = rw c.span a.span_low;
          ends = rw (c.start, c.span) a.ends;
        }

    same_coefficient : (j : ℕ) → j < 3 * size_of b (get_or kept k 0) → coefficient (book_anew b kept) k j ≡ coefficient b (get_or kept k 0) j
    same_coefficient j h = ap (of_bits binary64) (copied.bits j h)

    pub finites : coefficients_finite (book_anew b kept) k ≡ true
    finites =
        every_back (3 * size_of (book_anew b kept) k) (λ j. finite (coefficient (book_anew b kept) k j))
        (λ j h.
        let g : j < 3 * size_of b (get_or kept k 0) = rw copied.size at h in
        ap finite (same_coefficient j g) ∙ every (3 * size_of b (get_or kept k 0)) (λ j. finite (coefficient b (get_or kept k 0) j)) s.finites j g)

  -- ---- the blocks follow the contents in entry order with no gap
  pub block_place_lem : (k : ℕ) → k ≤ length kept → block_place (book_anew b kept) k ≡ place_anew b kept k
  block_place_lem zero h = omega (arith, counted)
  block_place_lem (suc k) h =
      let p = block_place_lem k (omega arith) in
      let n = (copied k (omega arith)).size in
      omega (arith, p, n, blocks_before b kept k (omega arith))

  -- what is written passes, if the entries are in order
  pub passes_anew : ((k : ℕ) → suc k < length kept → InOrder b (get_or kept k 0) (get_or kept (suc k) 0)) → passes (book_anew b kept) ≡ true
  passes_anew links =
      let checked : Checked (book_anew b kept) (entry_count (book_anew b kept)) =
      record {
        allowed = λ k h. allowed k (omega (arith, counted));
        next =
            λ k h m.
            let x = copied k (omega (arith, counted)) in
            let y = copied (suc k) (omega (arith, counted)) in
            let o = links k (omega (arith, counted)) in
            record {
              by_body = rw (x.body, y.body) o.by_body;
              by_time = rw (x.body, y.body, x.start, x.span, y.start) o.by_time;
            };
        placed = λ k h. offset k (omega (arith, counted)) ∙ sym (block_place_lem k (omega (arith, counted)));
        finites = λ k h. finites k (omega (arith, counted));
      }
      in
      sym (by_length (book_anew b kept) (book_length_lem ∙ sym stated) (omega (arith, book_length_lem)) checked)
      ∙ eq-eqb (block_place (book_anew b kept) (entry_count (book_anew b kept))) (length (book_anew b kept)) whole
    where
      whole : block_place (book_anew b kept) (entry_count (book_anew b kept)) ≡ length (book_anew b kept)
      whole = rw (counted, book_length_lem) (block_place_lem (length kept) (omega arith) ∙ ap (λ (l : List ℕ). entry_at (length kept) + blocks_length b l) (take-length kept))

module _ (b : List ℕ) (room : ℕ) (input : 8 ≤ length b) (enough : 8 ≤ room) where
  -- the entries kept, with all that is known of them
  pub kept_chained : Chained b room (kept_of b room) []
  unfolding repaired
  kept_chained =
      forward_through b room (record { kept = []; fates = reasons b (looked_at b) [] }) (ordered b (looked_at b)) []
      (rw (append-nil (ordered b (looked_at b))) (start_chained b room input enough))

  -- "reads one and writes one that passes"
  pub written_passes : room ≤ 61_440 → passes (book_anew b (kept_of b room)) ≡ true
  written_passes limit =
      let c = kept_chained in
      passes_anew b (kept_of b room) c.sound (let f = c.fits in omega arith) c.links

  -- "no coefficient is altered"
  pub written_copied : room ≤ 61_440 → (k : ℕ) → k < length (kept_of b room) → Copied b (book_anew b (kept_of b room)) (get_or (kept_of b room) k 0) k
  written_copied limit k l =
      let c = kept_chained in
      copied b (kept_of b room) c.sound (let f = c.fits in omega arith) k l
