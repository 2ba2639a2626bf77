-- Two listings with the same lines are the same bytes, but for the line feed behind the last line, which one may lack. Assumes nothing.
use Prim.Native.Nat.{ℕ, ◌+◌, ◌≤◌}
use mathlib.Core.Bool.{Bool, true, false}
use mathlib.Core.List.{List, [], ◌∷◌, ◌++◌, map}
use mathlib.Core.Logic.{◌⊎◌, inl, inr}
use mathlib.Core.Path.{◌≡◌, refl, sym, ap, ap₂, subst, ◌∙◌}
use native.Mathlib.Omega.{arith}
use borrow.Author.Tests.{eqb-true}
use lib.Dec.{eqb}
use Rattle.base.specs.Choice.{if◌then◌otherwise◌}
use Rattle.listing_scan.specs.declared.Line.{Line}
use Rattle.listing_scan.specs.declared.Line.TheVariants as line
use Rattle.listing_read.specs.declared.Place.{Place}
use Rattle.listing_read.specs.declared.Place.TheVariants.{Top, First, After, Done, Off}
use Rattle.listing_scan.specs.Reading.{kind_of}
use Rattle.listing_read.specs.Form.{in_first, lines_of, kinds_of, placed, is_off, refused_from, form_refusal}
use Rattle.compare_laws.specs.Same.{SameBytes, LinesAreBytes}
use Rattle.compare_laws.proofs.Texts.{some_line}

-- ---- from the lines to the bytes

-- a text's first byte is a line feed, or stands in front of the first line
abbrev begun : Bool → ℕ → List (List ℕ) → List (List ℕ)
begun t b ls = if t then [] ∷ ls otherwise in_first b ls

begun_some : (t : Bool) (b : ℕ) (ls : List (List ℕ)) → begun t b ls ≡ [] → ⊥
begun_some true b ls e = let z : ◌≡◌ {A = ℕ} 0 1 = cc in omega arith
begun_some false b ls e = some_line b ls e

no_bytes : (a : List ℕ) → lines_of a ≡ [] → a ≡ []
unfolding lines_of
no_bytes [] e = refl
no_bytes (b ∷ a) e = absurd (begun_some (eqb b 10) b (lines_of a) e)

-- a line that a byte stands in is not empty
some_byte : (b : ℕ) (ls ms : List (List ℕ)) → in_first b ls ≡ [] ∷ ms → ⊥
some_byte b [] ms e = let z : ◌≡◌ {A = ℕ} 0 1 = cc in omega arith
some_byte b (l ∷ ls) ms e = let z : ◌≡◌ {A = ℕ} 0 1 = cc in omega arith

-- one empty line is a line feed
one_feed : (a : List ℕ) → lines_of a ≡ [] ∷ [] → a ≡ 10 ∷ []
unfolding lines_of
one_feed [] e = let z : ◌≡◌ {A = ℕ} 0 1 = cc in absurd (omega arith)
one_feed (b ∷ a) e = go (eqb b 10) refl e
  where
    go : (t : Bool) → eqb b 10 ≡ t → begun t b (lines_of a) ≡ [] ∷ [] → b ∷ a ≡ 10 ∷ []
    go true q e = let none : lines_of a ≡ [] = cc in ap₂ (λ (k : ℕ) (l : List ℕ). k ∷ l) (eqb-true b 10 q) (no_bytes a none)
    go false q e = absurd (some_byte b (lines_of a) [] e)

-- one byte more in front of both
in_front : (x y : ℕ) (a b : List ℕ) → x ≡ y → SameBytes a b → SameBytes (x ∷ a) (y ∷ b)
in_front x y a b e (inl q) = inl (ap₂ (λ (k : ℕ) (l : List ℕ). k ∷ l) e q)
in_front x y a b e (inr (inl q)) = inr (inl (ap₂ (λ (k : ℕ) (l : List ℕ). k ∷ l) e q))
in_front x y a b e (inr (inr q)) = inr (inr (ap₂ (λ (k : ℕ) (l : List ℕ). k ∷ l) (sym e) q))

-- both begin with a byte of their first line
module _ (x y : ℕ) (a b : List ℕ) (later : lines_of a ≡ lines_of b → SameBytes a b) where
  in_line : (ls ms : List (List ℕ)) → lines_of a ≡ ls → lines_of b ≡ ms → in_first x ls ≡ in_first y ms → SameBytes (x ∷ a) (y ∷ b)
  in_line [] [] p q e = let same : x ≡ y = cc in in_front x y a b same (later (p ∙ sym q))
  in_line [] (m ∷ ms) p q e =
      let same : x ≡ y = cc in
      let empty : [] ≡ m = cc in
      let last : [] ≡ ms = cc in
      let feed : b ≡ 10 ∷ [] = one_feed b (q ∙ ap₂ (λ (k : List ℕ) (l : List (List ℕ)). k ∷ l) (sym empty) (sym last)) in
      in_front x y a b same (inr (inr (feed ∙ ap (λ (l : List ℕ). l ++ (10 ∷ [])) (sym (no_bytes a p)))))
  in_line (l ∷ ls) [] p q e =
      let same : x ≡ y = cc in
      let empty : l ≡ [] = cc in
      let last : ls ≡ [] = cc in
      let feed : a ≡ 10 ∷ [] = one_feed a (p ∙ ap₂ (λ (k : List ℕ) (l : List (List ℕ)). k ∷ l) empty last) in
      in_front x y a b same (inr (inl (feed ∙ ap (λ (l : List ℕ). l ++ (10 ∷ [])) (sym (no_bytes b q)))))
  in_line (l ∷ ls) (m ∷ ms) p q e =
      let same : x ≡ y = cc in
      let firsts : l ≡ m = cc in
      let others : ls ≡ ms = cc in
      in_front x y a b same (later (p ∙ ap₂ (λ (k : List ℕ) (l : List (List ℕ)). k ∷ l) firsts others ∙ sym q))

same_bytes : (a b : List ℕ) → lines_of a ≡ lines_of b → SameBytes a b
unfolding lines_of
same_bytes [] [] e = inl refl
same_bytes [] (y ∷ b) e = absurd (begun_some (eqb y 10) y (lines_of b) (sym e))
same_bytes (x ∷ a) [] e = absurd (begun_some (eqb x 10) x (lines_of a) e)
same_bytes (x ∷ a) (y ∷ b) e = go (eqb x 10) (eqb y 10) refl refl e (same_bytes a b)
  where
    go : (s t : Bool) → eqb x 10 ≡ s → eqb y 10 ≡ t → begun s x (lines_of a) ≡ begun t y (lines_of b) → (lines_of a ≡ lines_of b → SameBytes a b) → SameBytes (x ∷ a) (y ∷ b)
    go true true p q e later = let rest : lines_of a ≡ lines_of b = cc in in_front x y a b (eqb-true x 10 p ∙ sym (eqb-true y 10 q)) (later rest)
    go true false p q e later = absurd (some_byte y (lines_of b) (lines_of a) (sym e))
    go false true p q e later = absurd (some_byte x (lines_of a) (lines_of b) e)
    go false false p q e later = in_line x y a b later (lines_of a) (lines_of b) refl refl e

-- ---- and back: a listing does not end in an empty line

bad_off : (p : Place) → is_off (placed p line.Bad) ≡ true
bad_off Top = refl
bad_off First = refl
bad_off (After t) = refl
bad_off Done = refl
bad_off Off = refl

ends_badly : (ks : List Line) (p : Place) (n : ℕ) → 1 ≤ n → refused_from p n (ks ++ (line.Bad ∷ [])) ≡ 0 → ⊥
unfolding refused_from
ends_badly [] p n some e = let z : n ≡ 0 = rw (bad_off p) at e in omega arith
ends_badly (k ∷ ks) p n some e = go (is_off (placed p k)) e (ends_badly ks (placed p k) (n + 1) (omega arith))
  where
    go : (t : Bool) → (if t then n otherwise refused_from (placed p k) (n + 1) (ks ++ (line.Bad ∷ []))) ≡ 0 → (refused_from (placed p k) (n + 1) (ks ++ (line.Bad ∷ [])) ≡ 0 → ⊥) → ⊥
    go true e later = omega arith
    go false e later = later e

empty_bad : (ls : List (List ℕ)) → map kind_of (ls ++ ([] ∷ [])) ≡ map kind_of ls ++ (line.Bad ∷ [])
unfolding kind_of
empty_bad [] = refl
empty_bad (l ∷ ls) = ap (λ (ks : List Line). kind_of l ∷ ks) (empty_bad ls)

no_empty_line : (a : List ℕ) (ls : List (List ℕ)) → form_refusal a ≡ 0 → lines_of a ≡ ls ++ ([] ∷ []) → ⊥
unfolding form_refusal kinds_of
no_empty_line a ls h e = ends_badly (map kind_of ls) Top 1 (omega arith) (rw (e, empty_bad ls) at h)

-- a line feed behind a text ends its last line, or is an empty line more
one_more_feed : (b : List ℕ) → (lines_of (b ++ (10 ∷ [])) ≡ lines_of b) ⊎ (lines_of (b ++ (10 ∷ [])) ≡ lines_of b ++ ([] ∷ []))
unfolding lines_of
one_more_feed [] = inr refl
one_more_feed (x ∷ b) = go (eqb x 10) (one_more_feed b)
  where
    Either : List (List ℕ) → List (List ℕ) → Type 0
    Either more ls = (more ≡ ls) ⊎ (more ≡ ls ++ ([] ∷ []))

    put : (ls : List (List ℕ)) → Either (in_first x (ls ++ ([] ∷ []))) (in_first x ls)
    put [] = inl refl
    put (l ∷ ls) = inr refl

    go : (t : Bool) → Either (lines_of (b ++ (10 ∷ []))) (lines_of b) → Either (begun t x (lines_of (b ++ (10 ∷ [])))) (begun t x (lines_of b))
    go true (inl e) = inl (ap (λ (ls : List (List ℕ)). [] ∷ ls) e)
    go true (inr e) = inr (ap (λ (ls : List (List ℕ)). [] ∷ ls) e)
    go false (inl e) = inl (ap (in_first x) e)
    go false (inr e) = subst (λ (ls : List (List ℕ)). Either (in_first x ls) (in_first x (lines_of b))) (sym e) (put (lines_of b))

feed_behind : (a b : List ℕ) → form_refusal a ≡ 0 → a ≡ b ++ (10 ∷ []) → lines_of a ≡ lines_of b
feed_behind a b h e = go (one_more_feed b)
  where
    go : (lines_of (b ++ (10 ∷ [])) ≡ lines_of b) ⊎ (lines_of (b ++ (10 ∷ [])) ≡ lines_of b ++ ([] ∷ [])) → lines_of a ≡ lines_of b
    go (inl q) = ap lines_of e ∙ q
    go (inr q) = absurd (no_empty_line a (lines_of b) h (ap lines_of e ∙ q))

-- of two listings
pub lines_are_bytes : (a b : List ℕ) → form_refusal a ≡ 0 → form_refusal b ≡ 0 → LinesAreBytes a b
lines_are_bytes a b h g = (same_bytes a b, back)
  where
    back : SameBytes a b → lines_of a ≡ lines_of b
    back (inl e) = ap lines_of e
    back (inr (inl e)) = feed_behind a b h e
    back (inr (inr e)) = sym (feed_behind b a g e)
