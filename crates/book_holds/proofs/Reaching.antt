-- The walk through two books in order: an entry of the first can be in the second only at the place that the walk has reached. Assumes
-- nothing.
use Prim.Native.Nat.{ℕ, ◌+◌, ◌*◌, ◌<◌, ◌≤◌}
use mathlib.Core.Bool.{Bool, true, false, true≢false}
use mathlib.Core.List.{List}
use mathlib.Core.Logic.{◌⊎◌, inl, inr, ⊎_elim}
use mathlib.Core.Path.{◌≡◌, refl, sym, subst}
use lib.Dec.{ltb}
use borrow.Author.Tests.{ltb-true, ltb-false}
use native.Mathlib.Nat.{eq-or-lt_of_le}
use native.Mathlib.Omega.{arith}
use borrow.Author.Count.{below_more}
use Rattle.std.specs.Bool.{Decides}
use Rattle.book.specs.Contents.{entry_count, size_of, offset_of}
use Rattle.book.proofs.Passing.{Passing}
use Rattle.book_holds.specs.Holds.{Copied, HasCopy}
use Rattle.book_holds.specs.Walk.{Tells, Before, AllBefore, Reached, SameFields, SameBits}

pub tells : (r : Bool) {P Q : Type 0} → (P → Q) → (Q → P) → Tells r P → Tells r Q
tells true f g t = f t
tells false f g t = λ q. t (g q)

pub told : (r : Bool) {P : Type 0} → Decides r P → Tells r P
told true d = d.0 refl
told false d = λ p. true≢false (sym (d.1 p))

pub below_or_not : (k j : ℕ) → (k < j) ⊎ (j ≤ k)
below_or_not k j = by (ltb k j) refl
  where
    by : (x : Bool) → ltb k j ≡ x → (k < j) ⊎ (j ≤ k)
    by true h = inl (ltb-true k j h)
    by false h = inr (ltb-false k j h)

module _ (b c : List ℕ) (i : ℕ) where
  -- an entry that comes before is not a copy
  not_copy : (k : ℕ) → Before c k b i → Copied b c i k → ⊥
  not_copy k before copy = let s = before.by_start copy.body in let e = copy.start in omega arith

  -- what comes before a copy comes before the entry
  before_copy : (j k : ℕ) → Passing c → j < k → k < entry_count c → Copied b c i k → Before c j b i
  before_copy j k q l m copy =
      let o = q.ordered j k l m in
      let a = q.allowed j (omega arith) in
      let e = copy.body in
      let s = copy.start in
      record { by_body = let y = o.by_body in omega arith; by_start = λ same. let t = o.by_time (omega arith) in let low = a.span_low in omega arith }

  -- a copy is at the place that the walk has reached
  pub copy_reached : (j : ℕ) → Passing c → Reached c j b i → HasCopy b c i → (j < entry_count c) × Copied b c i j
  copy_reached j q r h =
      let k = h.0 in
      let m = h.1 in
      let copy = h.2 in
      ⊎_elim
      (λ less. absurd (not_copy k (r.all_before k less) copy))
      (λ from.
      ⊎_elim
      (λ e. subst (λ (n : ℕ). (n < entry_count c) × Copied b c i n) (sym e) (m, copy))
      (λ more. absurd (r.not_next (omega arith) (before_copy j k q more m copy)))
      (eq-or-lt_of_le from))
      (below_or_not k j)

  pub held_there : (j : ℕ) → Passing c → Reached c j b i → j < entry_count c → (r : Bool) → Tells r (Copied b c i j) → Tells r (HasCopy b c i)
  held_there j q reached l r t = tells r (λ copy. (j, l, copy)) (λ h. (copy_reached j q reached h).1) t

  -- what comes before entry i comes before the next one
  pub go_on : (j : ℕ) → Passing b → AllBefore c j b i → i + 1 < entry_count b → AllBefore c j b (i + 1)
  go_on j p all l k m =
      let a = all k m in
      let o = p.ordered i (i + 1) (omega arith) l in
      let low = (p.allowed i (omega arith)).span_low in
      record {
        by_body = let x = a.by_body in let y = o.by_body in omega arith;
        by_start =
            λ same.
            let x = a.by_body in
            let y = o.by_body in
            let s = a.by_start (omega arith) in
            let t = o.by_time (omega arith) in
            omega arith;
      }

-- ---- the result of a test
pub told_yes : (r : Bool) {P : Type 0} → r ≡ true → Tells r P → P
told_yes true e t = t
told_yes false e t = absurd (true≢false (sym e))

pub told_no : (r : Bool) {P : Type 0} → r ≡ false → Tells r P → P → ⊥
told_no true e t = absurd (true≢false e)
told_no false e t = t

-- the fields are the same: then the coefficients decide
pub copy_told : (b c : List ℕ) (i j at place n : ℕ) → SameFields b c i j → n ≡ size_of b i → at ≡ offset_of b i → place ≡ offset_of c j → (r : Bool)
    → Tells r (SameBits b at c place (3 * n)) → Tells r (Copied b c i j)
copy_told b c i j at place n f size from to r t =
    tells r
    (λ bits. record { body = f.body; size = f.size; start = f.start; span = f.span; bits = rw (← size, ← from, ← to) bits })
    (λ copy. rw (size, from, to) copy.bits)
    t

fields_of : (b c : List ℕ) (i j : ℕ) → Copied b c i j → SameFields b c i j
fields_of b c i j copy = record { body = copy.body; size = copy.size; start = copy.start; span = copy.span }

pub no_copy : (b c : List ℕ) (i j : ℕ) → (SameFields b c i j → ⊥) → Copied b c i j → ⊥
no_copy b c i j other copy = other (fields_of b c i j copy)

-- ---- one turn of a loop
pub more_held : (b c : List ℕ) (i : ℕ) → ((k : ℕ) → k < i → HasCopy b c k) → HasCopy b c i → (k : ℕ) → k < i + 1 → HasCopy b c k
more_held b c i all held = below_more (λ k. HasCopy b c k) i all held
