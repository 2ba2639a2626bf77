-- Two lines compared block by block, and a line printed block by block. Assumes nothing.
use Prim.Native.Nat.{ℕ, zero, suc, ◌+◌, ◌-◌, ◌<◌, ◌≤◌, min}
use mathlib.Core.Bool.{Bool, true, false}
use mathlib.Core.List.{List, [], ◌∷◌, ◌++◌, append-nil}
use mathlib.Core.Path.{◌≡◌, refl, sym, ap, ◌∙◌}
use native.Mathlib.Numerals.{add-one}
use native.Mathlib.Omega.{arith}
use borrow.Author.Tests.{lt-ltb, ltb-true, ltb-false, eq-eqb, ne_eqb, eqb-true, eqb-false}
use lib.Dec.{ltb, eqb}
use lib.ListN.{length, get_or, take, drop, drop_of_length-le}
use lib.Seq.{drop-cons}
use Rattle.base.specs.Choice.{if◌then◌otherwise◌}
use Rattle.text_write.specs.Written.{Wrote}
use Rattle.text_write.proofs.Writing.{nothing, both}
use Rattle.compare_report.specs.declared.Part.{Part}
use Rattle.compare_report.specs.Report.{until_feed, same}
use Rattle.compare_lines.specs.declared.Likeness.{Likeness}
use Rattle.compare_lines.specs.declared.Likeness.TheVariants.{Same, Differ, SoFar}
use Rattle.compare_lines.specs.declared.Stage.TheVariants.{Comparing, First, Over}
use Rattle.compare_lines.specs.Stages.{word_of, line_ends, both_end, used_up, likeness, line_text, Turned}

pub by_bool : (t : Bool) {P : Type 0} → (t ≡ true → P) → (t ≡ false → P) → P
by_bool true h k = h refl
by_bool false h k = k refl

-- ---- the line in a block

pub take_line : (a : List ℕ) → take (length (until_feed a)) a ≡ until_feed a
unfolding until_feed
take_line [] = refl
take_line (x ∷ a) = go (eqb x 10) (take_line a)
  where
    go : (t : Bool) → take (length (until_feed a)) a ≡ until_feed a → take (length (if t then [] otherwise x ∷ until_feed a)) (x ∷ a) ≡ (if t then [] otherwise x ∷ until_feed a)
    go true later = refl
    go false later = ap (λ (l : List ℕ). x ∷ l) later

pub line_short : (a : List ℕ) → length (until_feed a) ≤ length a
unfolding until_feed
line_short [] = omega arith
line_short (x ∷ a) = go (eqb x 10) (line_short a)
  where
    go : (t : Bool) → length (until_feed a) ≤ length a → length (if t then [] otherwise x ∷ until_feed a) ≤ suc (length a)
    go true later = omega arith
    go false later = omega arith

pub put_ended : {a b c behind : List ℕ} {m r : ℕ} (block : List ℕ) (n : ℕ) → n ≡ length (until_feed block) → line_ends block ≡ true
    → Wrote a 0 (take n block) b m → Wrote b m behind c r → Wrote a 0 (line_text block behind) c r
unfolding line_text
put_ended block n e ends w v = rw (ends, ← take_line block, ← e) (both w v)

pub put_open : {a b : List ℕ} {m : ℕ} (block behind : List ℕ) (n : ℕ) → n ≡ length (until_feed block) → line_ends block ≡ false
    → Wrote a 0 (take n block) b m → Wrote a 0 (line_text block behind) b m
unfolding line_text
put_open block behind n e ends w = rw (ends, append-nil (until_feed block), ← take_line block, ← e) w

-- ---- two blocks, byte by byte

pub first_up : (a b : List ℕ) (i : ℕ) → length a ≤ i → likeness i (drop i a) (drop i b) ≡ used_up i a b
unfolding likeness
first_up [] b zero h = refl
first_up (x ∷ a) b zero h = absurd (omega arith)
first_up a b (suc i) h = rw (drop_of_length-le a h, lt-ltb 0 (suc i) (omega arith))

pub second_up : (a b : List ℕ) (i : ℕ) → i < length a → length b ≤ i → likeness i (drop i a) (drop i b) ≡ used_up i a b
unfolding likeness
second_up [] b zero k h = absurd (omega arith)
second_up (x ∷ a) [] zero k h = refl
second_up (x ∷ a) (y ∷ b) zero k h = absurd (omega arith)
second_up a b (suc i) k h = rw (drop-cons a (suc i) 0 k, drop_of_length-le b h, lt-ltb 0 (suc i) (omega arith))

-- one of the blocks has no more
pub all_up : (a b : List ℕ) (i : ℕ) → i ≡ min (length a) (length b) → likeness i (drop i a) (drop i b) ≡ used_up i a b
all_up a b i e =
    by_bool (ltb i (length a)) (λ h. let k = ltb-true i (length a) h in second_up a b i k (omega arith)) (λ h. first_up a b i (ltb-false i (length a) h))

module _ (a b : List ℕ) (i : ℕ) (h : i < length a) (k : i < length b) where
  pub both_feeds : get_or a i 0 ≡ 10 → get_or b i 0 ≡ 10 → likeness i (drop i a) (drop i b) ≡ Same
  unfolding likeness
  both_feeds e f = rw (drop-cons a i 0 h, drop-cons b i 0 k, eq-eqb (get_or a i 0) 10 e, eq-eqb (get_or b i 0) 10 f)

  first_feeds : get_or a i 0 ≡ 10 → (get_or b i 0 ≡ 10 → ⊥) → likeness i (drop i a) (drop i b) ≡ Differ
  unfolding likeness
  first_feeds e f = rw (drop-cons a i 0 h, drop-cons b i 0 k, eq-eqb (get_or a i 0) 10 e, ne_eqb (get_or b i 0) 10 f)

  bytes_differ : (get_or a i 0 ≡ 10 → ⊥) → (get_or a i 0 ≡ get_or b i 0 → ⊥) → likeness i (drop i a) (drop i b) ≡ Differ
  unfolding likeness
  bytes_differ e f = rw (drop-cons a i 0 h, drop-cons b i 0 k, ne_eqb (get_or a i 0) 10 e, ne_eqb (get_or a i 0) (get_or b i 0) f)

  pub bytes_part : (get_or a i 0 ≡ get_or b i 0 → ⊥) → likeness i (drop i a) (drop i b) ≡ Differ
  bytes_part n = by_bool (eqb (get_or a i 0) 10)
      (λ e. first_feeds (eqb-true _ _ e) (λ f. n (eqb-true _ _ e ∙ sym f)))
      (λ e. bytes_differ (eqb-false _ _ e) n)

  pub bytes_same : (get_or a i 0 ≡ 10 → ⊥) → get_or a i 0 ≡ get_or b i 0 → likeness i (drop i a) (drop i b) ≡ likeness (i + 1) (drop (i + 1) a) (drop (i + 1) b)
  unfolding likeness
  bytes_same e f = rw (drop-cons a i 0 h, drop-cons b i 0 k, ne_eqb (get_or a i 0) 10 e, eq-eqb (get_or a i 0) (get_or b i 0) f, add-one i)

-- ---- what it says of the lines, of which these blocks are the front

abbrev pub Says : ℕ → List ℕ → List ℕ → Likeness → Type 0
Says i u v Same = same (until_feed u) (until_feed v) ≡ true
Says i u v Differ = same (until_feed u) (until_feed v) ≡ false
Says i u v (SoFar k) = (i ≤ k) × (same (until_feed u) (until_feed v) ≡ same (until_feed (drop (k - i) u)) (until_feed (drop (k - i) v)))

module _ (y : ℕ) (v : List ℕ) where
  none_ended : eqb y 10 ≡ true → same (until_feed []) (until_feed (y ∷ v)) ≡ true
  unfolding until_feed same
  none_ended e = rw e

  none_open : eqb y 10 ≡ false → same (until_feed []) (until_feed (y ∷ v)) ≡ false
  unfolding until_feed same
  none_open e = rw e

  ended_none : eqb y 10 ≡ true → same (until_feed (y ∷ v)) (until_feed []) ≡ true
  unfolding until_feed same
  ended_none e = rw e

  open_none : eqb y 10 ≡ false → same (until_feed (y ∷ v)) (until_feed []) ≡ false
  unfolding until_feed same
  open_none e = rw e

first_over : (b rb : List ℕ) → (b ≡ [] → rb ≡ []) → Says 0 [] (b ++ rb) (if both_end [] b then Same otherwise Differ)
unfolding until_feed same
first_over [] rb h = rw (h refl) refl
first_over (y ∷ b) rb h = by_bool (eqb y 10) (λ e. rw e (none_ended y (b ++ rb) e)) (λ e. rw (e, ne_eqb (suc (length (until_feed b))) 0 (λ n. omega arith)) (none_open y (b ++ rb) e))

second_over : (x : ℕ) (a ra : List ℕ) → Says 0 (x ∷ (a ++ ra)) [] (if both_end (x ∷ a) [] then Same otherwise Differ)
unfolding until_feed same
second_over x a ra = by_bool (eqb x 10) (λ e. rw e (ended_none x (a ++ ra) e)) (λ e. rw (e, ne_eqb (suc (length (until_feed a))) 0 (λ n. omega arith)) (open_none x (a ++ ra) e))

so_far : (i : ℕ) (u v : List ℕ) → Says i u v (SoFar i)
so_far i u v = let z : i - i ≡ 0 = omega arith in (omega arith, rw z)

shifted : (i x : ℕ) (u v : List ℕ) (l : Likeness) → eqb x 10 ≡ false → Says (i + 1) u v l → Says i (x ∷ u) (x ∷ v) l
unfolding until_feed same
shifted i x u v Same n h = rw (n, eq-eqb x x refl) h
shifted i x u v Differ n h = rw (n, eq-eqb x x refl) h
shifted i x u v (SoFar k) n h =
    let z : k - i ≡ suc (k - (i + 1)) = omega (arith, h.0) in
    (omega (arith, h.0), rw (z, n, eq-eqb x x refl) h.1)

module _ (x y : ℕ) (u v : List ℕ) where
  both_ended : eqb x 10 ≡ true → eqb y 10 ≡ true → same (until_feed (x ∷ u)) (until_feed (y ∷ v)) ≡ true
  unfolding until_feed same
  both_ended e f = rw (e, f)

  one_ended : eqb x 10 ≡ true → eqb y 10 ≡ false → same (until_feed (x ∷ u)) (until_feed (y ∷ v)) ≡ false
  unfolding until_feed same
  one_ended e f = rw (e, f)

  other_bytes : eqb x 10 ≡ false → eqb x y ≡ false → same (until_feed (x ∷ u)) (until_feed (y ∷ v)) ≡ false
  unfolding until_feed same
  other_bytes e f = by_bool (eqb y 10) (λ g. rw (e, g)) (λ g. rw (e, g, f))

pub says : (a b : List ℕ) (i : ℕ) (ra rb : List ℕ) → (i ≡ 0 → a ≡ [] → ra ≡ []) → (i ≡ 0 → b ≡ [] → rb ≡ []) → Says i (a ++ ra) (b ++ rb) (likeness i a b)
unfolding likeness
says [] b i ra rb p q =
    by_bool (ltb 0 i)
    (λ e. rw e (so_far i ra (b ++ rb)))
    (λ e.
    let z : i ≡ 0 = (let n = ltb-false 0 i e in omega arith) in
    rw (e, p z refl, z) (first_over b rb (q z)))
says (x ∷ a) [] i ra rb p q =
    by_bool (ltb 0 i)
    (λ e. rw e (so_far i (x ∷ (a ++ ra)) rb))
    (λ e.
    let z : i ≡ 0 = (let n = ltb-false 0 i e in omega arith) in
    rw (e, q z refl, z) (second_over x a ra))
says (x ∷ a) (y ∷ b) i ra rb p q =
    by_bool (eqb x 10)
    (λ e. by_bool (eqb y 10) (λ f. rw (e, f) (both_ended x y (a ++ ra) (b ++ rb) e f)) (λ f. rw (e, f) (one_ended x y (a ++ ra) (b ++ rb) e f)))
    (λ e.
    by_bool (eqb x y)
    (λ f. rw (e, f) (go (says a b (i + 1) ra rb (λ z. absurd (omega arith)) (λ z. absurd (omega arith))) e f))
    (λ f. rw (e, f) (other_bytes x y (a ++ ra) (b ++ rb) e f)))
  where
    go : Says (i + 1) (a ++ ra) (b ++ rb) (likeness (i + 1) a b) → eqb x 10 ≡ false → eqb x y ≡ true → Says i (x ∷ (a ++ ra)) (y ∷ (b ++ rb)) (likeness (i + 1) a b)
    go h e f = rw (← eqb-true x y f) (shifted i x (a ++ ra) (b ++ rb) (likeness (i + 1) a b) e h)

-- no more bytes are the same than the first block has
pub so_far_short : (a b : List ℕ) (i k : ℕ) → likeness i a b ≡ SoFar k → k ≤ i + length a
unfolding likeness
so_far_short [] b i k e = go (ltb 0 i) (both_end [] b) e
  where
    go : (t u : Bool) → (if t then SoFar i otherwise if u then Same otherwise Differ) ≡ SoFar k → k ≤ i + 0
    go true u e = let z : i ≡ k = cc in omega arith
    go false true e = let z : ◌≡◌ {A = ℕ} 0 1 = cc in absurd (omega arith)
    go false false e = let z : ◌≡◌ {A = ℕ} 0 1 = cc in absurd (omega arith)
so_far_short (x ∷ a) [] i k e = go (ltb 0 i) (both_end (x ∷ a) []) e
  where
    go : (t u : Bool) → (if t then SoFar i otherwise if u then Same otherwise Differ) ≡ SoFar k → k ≤ i + suc (length a)
    go true u e = let z : i ≡ k = cc in omega arith
    go false true e = let z : ◌≡◌ {A = ℕ} 0 1 = cc in absurd (omega arith)
    go false false e = let z : ◌≡◌ {A = ℕ} 0 1 = cc in absurd (omega arith)
so_far_short (x ∷ a) (y ∷ b) i k e = go (eqb x 10) (eqb y 10) (eqb x y) (so_far_short a b (i + 1) k) e
  where
    go : (t u v : Bool) → (likeness (i + 1) a b ≡ SoFar k → k ≤ i + 1 + length a)
        → (if t then (if u then Same otherwise Differ) otherwise if v then likeness (i + 1) a b otherwise Differ) ≡ SoFar k → k ≤ i + suc (length a)
    go true true v later e = let z : ◌≡◌ {A = ℕ} 0 1 = cc in absurd (omega arith)
    go true false v later e = let z : ◌≡◌ {A = ℕ} 0 1 = cc in absurd (omega arith)
    go false u true later e = let s = later e in omega arith
    go false u false later e = let z : ◌≡◌ {A = ℕ} 0 1 = cc in absurd (omega arith)

-- ---- a turn that compares

module _ (p : Part) (d : ℕ) (a b out : List ℕ) where
  pub turned_same : likeness 0 a b ≡ Same → Turned p (Comparing d) a b out out (record { stage = Over; written = 0 })
  turned_same e = record { stage = rw e; wrote = rw e (nothing out 0) }

  pub turned_differ : (after : List ℕ) (r : ℕ) → likeness 0 a b ≡ Differ → Wrote out 0 (word_of p) after r → Turned p (Comparing d) a b out after (record { stage = First 0; written = r })
  turned_differ after r e w = record { stage = rw e; wrote = rw e w }

  pub turned_so_far : (k : ℕ) → likeness 0 a b ≡ SoFar k → Turned p (Comparing d) a b out out (record { stage = Comparing (d + k); written = 0 })
  turned_so_far k e = record { stage = rw e; wrote = rw e (nothing out 0) }
