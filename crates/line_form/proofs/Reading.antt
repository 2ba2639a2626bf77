-- How the loops over a line's bytes and fields come to what the definitions say of the whole line.
use Prim.Native.Nat.{ℕ, ◌+◌, ◌<◌}
use mathlib.Core.Bool.{Bool, true, false}
use Rattle.base.specs.Choice.{if◌then◌otherwise◌}
use mathlib.Core.List.{List, [], ◌∷◌, ◌++◌}
use mathlib.Core.Path.{◌≡◌, refl, sym, ap, ◌∙◌}
use native.Mathlib.Numerals.{add-one}
use native.Mathlib.Omega.{arith}
use lib.Dec.{eqb}
use Rattle.std.specs.Cmp.Lexicographic.{pointwise}
use Rattle.std.proofs.lemmas.Bool.Decides.{nat_tests}
use lib.ListN.{length, get_or, take, drop, set}
use lib.Seq.{drop-cons, drop-length, take-suc-set}
use Rattle.std.specs.Prelude.{None}
use Rattle.text_read.specs.Fields.{field}
use Rattle.line_form.specs.Call.{Call, These, Unreadable, ahead, and_then, field_at, fields_from, starts_with, or_unreadable}

-- the library's test is the definition
same_test : (a b : ℕ) → eqb b a ≡ eqb a b
same_test a b = grind (arith, nat_tests)

pub named : (line name : List ℕ) → pointwise eqb name (take (length name) line) ≡ starts_with line name
unfolding starts_with
named line [] = refl
named [] (b ∷ name) = refl
named (a ∷ line) (b ∷ name) = rw (same_test a b, named line name)

-- the numbers read so far, and then those of a call
pub prepend : List ℕ → Call → Call
prepend [] c = c
prepend (n ∷ ns) c = ahead n (prepend ns c)

prepend_one : (ns : List ℕ) (n : ℕ) (c : Call) → prepend (ns ++ (n ∷ [])) c ≡ prepend ns (ahead n c)
unfolding prepend
prepend_one [] n c = refl
prepend_one (m ∷ ns) n c = ap (ahead m) (prepend_one ns n c)

prepend_unreadable : (ns : List ℕ) → prepend ns Unreadable ≡ Unreadable
unfolding prepend
prepend_unreadable [] = refl
prepend_unreadable (n ∷ ns) = ap (ahead n) (prepend_unreadable ns)

prepend_none : (ns : List ℕ) → prepend ns (These []) ≡ These ns
unfolding prepend
prepend_none [] = refl
prepend_none (n ∷ ns) = ap (ahead n) (prepend_none ns)

-- the fields before a place are read, and are the first of the numbers
abbrev pub Read : List ℕ → List ℕ → ℕ → List ℕ → ℕ → ℕ → Type 0
Read line kinds from numbers i at = fields_from line kinds from ≡ prepend (take i numbers) (fields_from line (drop i kinds) at)

module _ (line kinds : List ℕ) (from : ℕ) where
  pub read_none : (numbers : List ℕ) → Read line kinds from numbers 0 from
  unfolding prepend fields_from
  read_none numbers = refl

  next_field : (i at : ℕ) → i < length kinds → fields_from line (drop i kinds) at ≡ and_then (field_at (get_or kinds i 0) line at) (fields_from line (drop (i + 1) kinds))
  unfolding fields_from
  next_field i at h = rw (add-one, drop-cons kinds i 0 h)

  pub read_more : (numbers : List ℕ) (i at n next : ℕ) → i < length kinds → i < length numbers → Read line kinds from numbers i at
      → field_at (get_or kinds i 0) line at ≡ field n next → Read line kinds from (set numbers i n) (i + 1) next
  read_more numbers i at n next hk hn r e =
      r ∙ rw (next_field i at hk, e, add-one i, take-suc-set numbers i n hn, prepend_one)

  pub read_bad : (numbers : List ℕ) (i at : ℕ) → i < length kinds → Read line kinds from numbers i at → field_at (get_or kinds i 0) line at ≡ None → Unreadable ≡ fields_from line kinds from
  read_bad numbers i at hk r e = sym (r ∙ rw (next_field i at hk, e, prepend_unreadable))

  pub read_all : (numbers : List ℕ) (at : ℕ) → Read line kinds from numbers (length kinds) at → or_unreadable (eqb at (length line)) (take (length kinds) numbers) ≡ fields_from line kinds from
  unfolding fields_from
  read_all numbers at r = sym (r ∙ rw (drop-length kinds) (by_end (eqb at (length line))))
    where
      by_end : (t : Bool) → prepend (take (length kinds) numbers) (if t then These [] otherwise Unreadable) ≡ or_unreadable t (take (length kinds) numbers)
      by_end true = prepend_none (take (length kinds) numbers)
      by_end false = prepend_unreadable (take (length kinds) numbers)

-- ---- the result of the reader of a call

pub is_call : (r : Bool) (v : List ℕ) (call : Call) → or_unreadable r v ≡ call → r ≡ true → call ≡ These v
is_call true v call e t = sym e
is_call false v call e t = let z : ◌≡◌ {A = ℕ} 0 1 = cc in absurd (omega arith)

pub no_call : (r : Bool) (v : List ℕ) (call : Call) → or_unreadable r v ≡ call → r ≡ false → call ≡ Unreadable
no_call true v call e t = let z : ◌≡◌ {A = ℕ} 0 1 = cc in absurd (omega arith)
no_call false v call e t = sym e
