-- The lookup in a book that passes. At most one entry of a body covers a moment. An entry that does not serve rules out all before it or
-- all after it. Assumes nothing.
use Prim.Native.Nat.{ℕ, zero, suc, ◌+◌, ◌<◌, ◌≤◌}
use mathlib.Core.Bool.{Bool, true, false}
use mathlib.Core.List.{List}
use mathlib.Core.Logic.{⊎_elim}
use mathlib.Core.Path.{◌≡◌, refl, sym, subst, ◌∙◌}
use lib.Dec.{ltb, leb, eqb}
use borrow.Author.Tests.{ltb-true, ltb-false, leb-true, eqb-true, lt-ltb, le-leb, eq-eqb}
use native.Mathlib.Nat.{eq-or-lt_of_le, le_of_suc-le-suc, not-suc-le-zero}
use native.Mathlib.Omega.{arith}
use Rattle.std.specs.Prelude.{Option, Some, None}
use Rattle.base.specs.Choice.{if◌then◌otherwise◌}
use Rattle.book_check.specs.Contents.{entry_count, body_of, start_of, end_of}
use Rattle.book_search.specs.Lookup.{covers, serves, or_else, first_below, lookup}
use Rattle.book_search.specs.Stands.{Stands, Narrowed}
use Rattle.book_search.specs.declared.search.Stand.TheVariants.{Past, Before}
use Rattle.base.proofs.Bools.{both, left, right, is_false}
use Rattle.book_check.proofs.Passing.{Passing}

-- ---- the first number that meets a test
pub first_none : (n : ℕ) (test : ℕ → Bool) → ((k : ℕ) → k < n → test k ≡ false) → first_below n test ≡ None
first_none zero test h = refl
first_none (suc n) test h = simp (first_none n test (λ k l. h k (omega arith)), h n (omega arith))

pub first_only : (n : ℕ) (test : ℕ → Bool) (i : ℕ) → i < n → test i ≡ true → ((k : ℕ) → k < i → test k ≡ false) → first_below n test ≡ Some i
first_only zero test i l h none = absurd (not-suc-le-zero l)
first_only (suc n) test i l h none =
    ⊎_elim
    (λ e.
    let none' : (k : ℕ) → k < n → test k ≡ false = λ k m. none k (omega arith) in
    let h' : test n ≡ true = subst (λ (m : ℕ). test m ≡ true) e h in
    simp (first_none n test none', h', e))
    (λ lt. simp (first_only n test i lt h none))
    (eq-or-lt_of_le (le_of_suc-le-suc l))

pub record Meets (n : ℕ) (test : ℕ → Bool) (i : ℕ) : Type 0 where
  pub below : i < n
  pub meets : test i ≡ true

pub first_at : (n : ℕ) (test : ℕ → Bool) (i : ℕ) → first_below n test ≡ Some i → Meets n test i
first_at zero test i h = let z : ◌≡◌ {A = ℕ} 0 1 = cc in absurd (omega arith)
first_at (suc n) test i h = by (first_below n test) (test n) refl refl (first_at n test i) h
  where
    by : (earlier : Option ℕ) (now : Bool) → first_below n test ≡ earlier → test n ≡ now → (first_below n test ≡ Some i → Meets n test i) →
        or_else earlier (if now then Some n otherwise None) ≡ Some i → Meets (suc n) test i
    by (Some j) now e t at h = let a = at (e ∙ h) in record { below = omega arith; meets = a.meets }
    by None true e t at h = let same : n ≡ i = cc in record { below = omega arith; meets = subst (λ (k : ℕ). test k ≡ true) same t }
    by None false e t at h = let z : ◌≡◌ {A = ℕ} 0 1 = cc in absurd (omega arith)

-- ---- an entry that serves
pub record Serving (b : List ℕ) (body t i : ℕ) : Type 0 where
  pub own : body_of b i ≡ body
  pub from : start_of b i ≤ t
  pub until : t < end_of b i

pub covering : (b : List ℕ) (i t : ℕ) → covers b i t ≡ true → (start_of b i ≤ t) × (t < end_of b i)
covering b i t h = (
  leb-true (start_of b i) t (left (leb (start_of b i) t) (ltb t (end_of b i)) h),
  ltb-true t (end_of b i) (right (leb (start_of b i) t) (ltb t (end_of b i)) h),
)

module _ (b : List ℕ) (body t i : ℕ) where
  pub serving_covers : serves b body t i ≡ true → covers b i t ≡ true
  serving_covers h = right (eqb (body_of b i) body) (covers b i t) h

  pub serving : serves b body t i ≡ true → Serving b body t i
  serving h =
      let c = covering b i t (serving_covers h) in
      record { own = eqb-true (body_of b i) body (left (eqb (body_of b i) body) (covers b i t) h); from = c.0; until = c.1 }

  pub serving_back : Serving b body t i → serves b body t i ≡ true
  serving_back s = both (eq-eqb _ _ s.own) (both (le-leb _ _ s.from) (lt-ltb _ _ s.until))

  pub not_serving : (Serving b body t i → ⊥) → serves b body t i ≡ false
  not_serving h = is_false (serves b body t i) (λ s. h (serving s))

module _ (b : List ℕ) (body t : ℕ) (p : Passing b) where
  -- ---- what the search learns from entry j
  pub past : (j : ℕ) → j < entry_count b → Stands b j body t Past → (i : ℕ) → i < j + 1 → serves b body t i ≡ false
  past j l st i m =
      not_serving b body t i
      (λ s.
      ⊎_elim
      (λ e.
      let own : body_of b j ≡ body = subst (λ (k : ℕ). body_of b k ≡ body) e s.own in
      let end = st.1 own in
      let until : t < end_of b j = subst (λ (k : ℕ). t < end_of b k) e s.until in
      omega arith)
      (λ lt.
      let o = p.ordered i j lt l in
      let a = p.allowed j l in
      let apart = o.by_time (omega arith) in
      let end = st.1 (omega arith) in
      omega arith)
      (eq-or-lt_of_le (let le : i ≤ j = omega arith in le)))

  pub before : (j : ℕ) → Stands b j body t Before → (i : ℕ) → j ≤ i → i < entry_count b → serves b body t i ≡ false
  before j st i le m =
      not_serving b body t i
      (λ s.
      ⊎_elim
      (λ e.
      let own : body_of b j ≡ body = subst (λ (k : ℕ). body_of b k ≡ body) (sym e) s.own in
      let start = st.1 own in
      let from : start_of b j ≤ t = subst (λ (k : ℕ). start_of b k ≤ t) (sym e) s.from in
      omega arith)
      (λ lt.
      let o = p.ordered j i lt m in
      let apart = o.by_time (omega arith) in
      let start = st.1 (omega arith) in
      omega arith)
      (eq-or-lt_of_le le))

  -- ---- at most one entry of a body covers a moment
  pub only : (i j : ℕ) → i < j → j < entry_count b → Serving b body t j → serves b body t i ≡ false
  only i j l m s = not_serving b body t i (λ r. let apart = (p.ordered i j l m).by_time (omega arith) in omega arith)

  pub found : (i : ℕ) → i < entry_count b → Serving b body t i → lookup b body t ≡ Some i
  unfolding lookup
  found i l s = first_only (entry_count b) (serves b body t) i l (serving_back b body t i s) (λ k m. only k i m l s)

  pub at_most_one : (i j : ℕ) → i < entry_count b → j < entry_count b → Serving b body t i → Serving b body t j → i ≡ j
  at_most_one i j l m r s = cc (found i l r, found j m s)

pub missing : (b : List ℕ) (body t : ℕ) → ((i : ℕ) → i < entry_count b → serves b body t i ≡ false) → lookup b body t ≡ None
unfolding lookup
missing b body t none = first_none (entry_count b) (serves b body t) none

pub looked_up_lem : (b : List ℕ) (body t i : ℕ) → lookup b body t ≡ Some i → Meets (entry_count b) (serves b body t) i
unfolding lookup
looked_up_lem b body t i h = first_at (entry_count b) (serves b body t) i h

-- ---- what is left to search
pub unsearched : (b : List ℕ) (body t probe : ℕ) → (0 < entry_count b → probe < entry_count b) → Narrowed b body t 0 (entry_count b) probe
unsearched b body t probe in-it =
    record {
      none_below = λ i l. absurd (not-suc-le-zero l);
      none_from = λ i l m. absurd (omega arith);
      ordered = omega arith;
      within = omega arith;
      probed = λ l. let m = in-it l in (omega arith, m);
    }

module _ (b : List ℕ) (body t : ℕ) (p : Passing b) (low high probe next : ℕ) (n : Narrowed b body t low high probe) (l : low < high) where
  pub narrow_past : Stands b probe body t Past → (probe + 1 < high → (probe + 1 ≤ next) × (next < high)) → Narrowed b body t (probe + 1) high next
  narrow_past st probed =
      let in-it = n.probed l in
      record {
        none_below = past b body t p probe (let w = n.within in omega arith) st;
        none_from = n.none_from;
        ordered = omega arith;
        within = n.within;
        probed = probed;
      }

  pub narrow_before : Stands b probe body t Before → (low < probe → (low ≤ next) × (next < probe)) → Narrowed b body t low probe next
  narrow_before st probed =
      let in-it = n.probed l in
      record {
        none_below = n.none_below;
        none_from = before b body t p probe st;
        ordered = omega arith;
        within = let w = n.within in omega arith;
        probed = probed;
      }

pub nothing_left : (b : List ℕ) (body t low high probe : ℕ) → Narrowed b body t low high probe → high ≤ low → lookup b body t ≡ None
nothing_left b body t low high probe n l = missing b body t (λ i m. by i m (ltb i low) refl)
  where
    by : (i : ℕ) → i < entry_count b → (x : Bool) → ltb i low ≡ x → serves b body t i ≡ false
    by i m true h = n.none_below i (ltb-true i low h)
    by i m false h = let le : low ≤ i = ltb-false i low h in n.none_from i (omega arith) m

-- what the position of an entry that was looked up requires
pub covered : (b : List ℕ) (body t i : ℕ) → lookup b body t ≡ Some i → (i < entry_count b) × (covers b i t ≡ true)
covered b body t i h = let a = looked_up_lem b body t i h in (a.below, serving_covers b body t i a.meets)
