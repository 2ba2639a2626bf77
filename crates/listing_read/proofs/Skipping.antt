-- Reading up to a line feed does not change what follows: laws of `to_feed`. Assumes nothing.
use Prim.Native.Nat.{ℕ, suc, ◌+◌, ◌-◌, ◌<◌, ◌≤◌}
use mathlib.Core.Bool.{Bool, true, false}
use mathlib.Core.List.{List, [], ◌∷◌, ◌++◌}
use mathlib.Core.Path.{◌≡◌, refl, sym, ap, subst, ◌∙◌}
use native.Mathlib.Nat.{add-zero}
use native.Mathlib.Numerals.{add-one}
use native.Mathlib.Omega.{arith}
use borrow.Author.Tests.{ltb-true, eq-eqb, ne_eqb, eqb-true, eqb-false, ltb-false}
use lib.Dec.{eqb, ltb}
use lib.ListN.{length, get_or, take, drop, length-drop}
use lib.Seq.{drop-cons, take-suc}
use Rattle.listing_scan.specs.declared.Scan.{Scan}
use Rattle.listing_read.specs.declared.Judge.{Judge}
use Rattle.listing_read.specs.declared.Reached.{Reached}
use Rattle.listing_scan.specs.Bytes.{on_byte}
use Rattle.listing_read.specs.Bytes.{searched, next_row, kinds_from, Counted, Goes}
use Rattle.listing_read.specs.Reached.{up_to_feed, to_feed, read_on, judged_line}
use Rattle.listing_read.proofs.Lines.{kinds_byte}
use Rattle.listing_scan.proofs.Taking.{takes}
use Rattle.listing_read.proofs.Judging.{goes_on, goes_feed, goes_byte}
use Rattle.listing_read.proofs.Whole.{after_drop}

by_feed : (b : ℕ) {P : Type 0} → (b ≡ 10 → P) → ((b ≡ 10 → ⊥) → P) → P
by_feed b {P} h k = go (eqb b 10) refl
  where
    go : (t : Bool) → eqb b 10 ≡ t → P
    go true e = h (eqb-true b 10 e)
    go false e = k (eqb-false b 10 e)

-- ---- one byte

module _ (b : ℕ) (bytes : List ℕ) (at : ℕ) (s : Scan) where
  stops : b ≡ 10 → up_to_feed (b ∷ bytes) at s ≡ record { scan = s; at = at }
  unfolding up_to_feed
  stops e = rw (eq-eqb b 10 e)

  steps : (b ≡ 10 → ⊥) → up_to_feed (b ∷ bytes) at s ≡ up_to_feed bytes (at + 1) (on_byte s b)
  unfolding up_to_feed
  steps n = rw (ne_eqb b 10 n)

-- ---- its place

pub least : (bytes : List ℕ) (at : ℕ) (s : Scan) → at ≤ (up_to_feed bytes at s).at
unfolding up_to_feed
least [] at s = omega arith
least (b ∷ bytes) at s =
    by_feed b (λ e. rw (stops b bytes at s e) (omega arith)) (λ n. rw (steps b bytes at s n) (omega (arith, least bytes (at + 1) (on_byte s b))))

pub most : (bytes : List ℕ) (at : ℕ) (s : Scan) → (up_to_feed bytes at s).at ≤ at + length bytes
unfolding up_to_feed
most [] at s = omega arith
most (b ∷ bytes) at s =
    by_feed b (λ e. rw (stops b bytes at s e) (omega arith)) (λ n. rw (steps b bytes at s n) (omega (arith, most bytes (at + 1) (on_byte s b))))

module _ (block : List ℕ) where
  pub feed_least : (at : ℕ) (s : Scan) → at ≤ (to_feed block at s).at
  feed_least at s = least (drop at block) at s

  pub feed_most : (at : ℕ) (s : Scan) → at ≤ length block → (to_feed block at s).at ≤ length block
  feed_most at s h = omega (arith, most (drop at block) at s, length-drop at block)

  -- a place with bytes after it lies inside the block
  inside : (at b : ℕ) (bytes : List ℕ) → drop at block ≡ b ∷ bytes → at < length block
  inside at b bytes e = omega (arith, length-drop at block, ap length e)

  byte_at : (at b : ℕ) (bytes : List ℕ) → drop at block ≡ b ∷ bytes → get_or block at 0 ≡ b
  byte_at at b bytes e = let d = drop-cons block at 0 (inside at b bytes e) in let f : get_or block at 0 ∷ drop (suc at) block ≡ b ∷ bytes = sym d ∙ e in cc

  -- the place is that of a line feed, or the end
  at_feed : (bytes : List ℕ) (at : ℕ) (s : Scan) → drop at block ≡ bytes → (up_to_feed bytes at s).at < length block → get_or block (up_to_feed bytes at s).at 0 ≡ 10
  unfolding up_to_feed
  at_feed [] at s e h = absurd (omega (arith, length-drop at block, ap length e))
  at_feed (b ∷ bytes) at s e h =
      by_feed b (λ f. rw (stops b bytes at s f) (byte_at at b bytes e ∙ f))
      (λ n. rw (steps b bytes at s n) (at_feed bytes (at + 1) (on_byte s b) (after_drop block at b bytes e) (rw (steps b bytes at s n) at h)))

  pub feed_is : (at : ℕ) (s : Scan) → (to_feed block at s).at < length block → get_or block (to_feed block at s).at 0 ≡ 10
  feed_is at s h = at_feed (drop at block) at s refl h

  -- ---- the next state

  search_along : (bytes : List ℕ) (at : ℕ) (s : Scan) → drop at block ≡ bytes
      → searched bytes at s ≡ next_row block (up_to_feed bytes at s).at (up_to_feed bytes at s).scan
  unfolding up_to_feed searched
  search_along [] at s e = rw e
  search_along (b ∷ bytes) at s e =
      by_feed b (λ f. rw (stops b bytes at s f, e))
      (λ n. rw (steps b bytes at s n) (skips n ∙ search_along bytes (at + 1) (on_byte s b) (after_drop block at b bytes e)))
    where
      skips : (b ≡ 10 → ⊥) → searched (b ∷ bytes) at s ≡ searched bytes (at + 1) (on_byte s b)
      skips n = rw (ne_eqb b 10 n)

  pub search_skips : (at : ℕ) (s : Scan) → next_row block at s ≡ next_row block (to_feed block at s).at (to_feed block at s).scan
  search_skips at s = search_along (drop at block) at s refl

  -- ---- the lines

  kinds_along : (bytes : List ℕ) (at : ℕ) (s : Scan) (rest : List ℕ) → drop at block ≡ bytes
      → kinds_from s (bytes ++ rest) ≡ kinds_from (up_to_feed bytes at s).scan (drop (up_to_feed bytes at s).at block ++ rest)
  unfolding up_to_feed
  kinds_along [] at s rest e = rw e
  kinds_along (b ∷ bytes) at s rest e =
      by_feed b (λ f. rw (stops b bytes at s f, e))
      (λ n.
      rw (steps b bytes at s n)
      (kinds_byte s (on_byte s b) b (bytes ++ rest) n (takes s b) ∙ kinds_along bytes (at + 1) (on_byte s b) rest (after_drop block at b bytes e)))

  pub kinds_skip : (at : ℕ) (s : Scan) (rest : List ℕ) → kinds_from s (drop at block ++ rest) ≡ kinds_from (to_feed block at s).scan (drop (to_feed block at s).at block ++ rest)
  kinds_skip at s rest = kinds_along (drop at block) at s rest refl

  -- ---- the reading

  same_place : (j : Judge) (at : ℕ) → j ≡ read_on j (record { scan = j.scan; at = at }) at
  same_place j at = let z : at - at ≡ 0 = omega arith in rw (z, add-zero j.read)

  abbrev one_more : (j : Judge) (b : ℕ) → Judge
  one_more j b =
      record { place = j.place; scan = on_byte j.scan b; line = j.line; rows = j.rows; read = j.read + 1; from = j.from; last = j.last }

  one_less : (j : Judge) (b at : ℕ) (r : Reached) → at + 1 ≤ r.at → read_on (one_more j b) r (at + 1) ≡ read_on j r at
  one_less j b at r h = let e : j.read + 1 + (r.at - (at + 1)) ≡ j.read + (r.at - at) = omega arith in rw e

  module _ (j₀ : Judge) where
    goes_one : (j : Judge) (at b : ℕ) (bytes : List ℕ) → drop at block ≡ b ∷ bytes → (b ≡ 10 → ⊥) → Goes j₀ (take at block) j → Goes j₀ (take (at + 1) block) (one_more j b)
    goes_one j at b bytes e n g =
        rw (add-one at, take-suc block at 0 (inside at b bytes e), byte_at at b bytes e)
        (goes_on _ _ _ _ _ g (goes_byte j g.counted b (on_byte j.scan b) n (takes j.scan b)))

    goes_along : (bytes : List ℕ) (at : ℕ) (j : Judge) → drop at block ≡ bytes → Goes j₀ (take at block) j
        → Goes j₀ (take (up_to_feed bytes at j.scan).at block) (read_on j (up_to_feed bytes at j.scan) at)
    unfolding up_to_feed
    goes_along [] at j e g = subst (Goes j₀ (take at block)) (same_place j at) g
    goes_along (b ∷ bytes) at j e g =
        by_feed b (λ f. rw (stops b bytes at j.scan f) (subst (Goes j₀ (take at block)) (same_place j at) g))
        (λ n.
        let r = up_to_feed bytes (at + 1) (on_byte j.scan b) in
        rw (steps b bytes at j.scan n)
        (subst (Goes j₀ (take r.at block)) (one_less j b at r (least bytes (at + 1) (on_byte j.scan b)))
        (goes_along bytes (at + 1) (one_more j b) (after_drop block at b bytes e) (goes_one j at b bytes e n g))))

    pub goes_to_feed : (at : ℕ) (j : Judge) → Goes j₀ (take at block) j → Goes j₀ (take (to_feed block at j.scan).at block) (read_on j (to_feed block at j.scan) at)
    goes_to_feed at j g = goes_along (drop at block) at j refl g

    pub goes_line : (at : ℕ) (j : Judge) → Goes j₀ (take at block) j → Goes j₀ (take (judged_line block at j).at block) (judged_line block at j).judge
    unfolding judged_line
    goes_line at j g = go (ltb (to_feed block at j.scan).at (length block)) refl
      where
        go : (t : Bool) → ltb (to_feed block at j.scan).at (length block) ≡ t → Goes j₀ (take (judged_line block at j).at block) (judged_line block at j).judge
        go false e = rw e (goes_to_feed at j g)
        go true e =
            let r = to_feed block at j.scan in
            let k = read_on j r at in
            let h = ltb-true r.at (length block) e in
            let along = goes_to_feed at j g in
            rw (e, add-one r.at, take-suc block r.at 0 h) (goes_on _ _ _ _ _ along (goes_feed k along.counted (get_or block r.at 0) (feed_is at j.scan h)))

  pub line_least : (at : ℕ) (j : Judge) → at < length block → at < (judged_line block at j).at
  unfolding judged_line
  line_least at j h = go (ltb (to_feed block at j.scan).at (length block)) refl
    where
      go : (t : Bool) → ltb (to_feed block at j.scan).at (length block) ≡ t → at < (judged_line block at j).at
      go true e = rw e (omega (arith, feed_least at j.scan))
      go false e = rw e (omega (arith, ltb-false (to_feed block at j.scan).at (length block) e))

  pub line_most : (at : ℕ) (j : Judge) → at ≤ length block → (judged_line block at j).at ≤ length block
  unfolding judged_line
  line_most at j h = go (ltb (to_feed block at j.scan).at (length block)) refl
    where
      go : (t : Bool) → ltb (to_feed block at j.scan).at (length block) ≡ t → (judged_line block at j).at ≤ length block
      go true e = rw e (omega (arith, ltb-true (to_feed block at j.scan).at (length block) e))
      go false e = rw e (feed_most at j.scan h)

-- ---- its numbers

-- the bounds of a reading inside its line
pub line_room : (block : List ℕ) (at : ℕ) (j : Judge) (r : Reached) → r ≡ to_feed block at j.scan → at ≤ length block → j.read + (length block - at) + 2 < 0x1_0000_0000_0000_0000
    → (at ≤ r.at) × (j.read + (r.at - at) < 0x1_0000_0000_0000_0000)
line_room block at j r e h room = rw e (feed_least block at j.scan, omega (arith, feed_most block at j.scan h))

pub record Room (k : Judge) : Type 0 where
  pub read : k.read + 1 < 0x1_0000_0000_0000_0000
  pub lines : k.line + 1 < 0x1_0000_0000_0000_0000
  pub rows : k.rows + 1 < 0x1_0000_0000_0000_0000

pub end_room : (block : List ℕ) (at : ℕ) (j k : Judge) (r : Reached) → r ≡ to_feed block at j.scan → k ≡ read_on j r at → Counted j → at ≤ length block
    → j.read + (length block - at) + 2 < 0x1_0000_0000_0000_0000 → Room k
end_room block at j k r e f known h room =
    let l = known.lines in
    let s = known.states in
    let m = feed_most block at j.scan h in
    rw (f, e) (record { read = omega arith; lines = omega arith; rows = omega arith })
