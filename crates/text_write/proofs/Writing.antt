-- Texts written one after the other. Assumes nothing.
use Prim.Native.Nat.{ℕ, ◌+◌, ◌<◌, ◌≤◌, min}
use mathlib.Core.List.{List, [], ◌∷◌, ◌++◌, append_assoc, append-nil}
use mathlib.Core.Path.{◌≡◌, refl, sym, ap, ◌∙◌}
use native.Mathlib.Nat.{add_assoc, add-zero}
use native.Mathlib.Numerals.{add-one}
use native.Mathlib.Omega.{arith}
use lib.ListN.{length, take, drop, get_or, set, length-append, length-take, take-append-drop}
use lib.Seq.{take-suc, take-suc-set, length-take-le, drop-drop, drop-set-lt}
use Rattle.text_write.specs.Written.{Wrote}

pub nothing : (out : List ℕ) (at : ℕ) → Wrote out at [] out at
nothing out at = record { next = sym (add-zero at); bytes = sym (append-nil (take at out)); rest = refl }

-- what stays from a place on stays from any later place on
pub later : (a b : List ℕ) (m k : ℕ) → drop m b ≡ drop m a → drop (m + k) b ≡ drop (m + k) a
later a b m k e = sym (drop-drop k m b) ∙ ap (drop k) e ∙ drop-drop k m a

-- one text, and from its end another
pub both : {a b c t u : List ℕ} {at m r : ℕ} → Wrote a at t b m → Wrote b m u c r → Wrote a at (t ++ u) c r
both {a} {b} {c} {t} {u} {at} {m} {r} w v =
    record {
      next = omega (arith, v.next, w.next, length-append t u);
      bytes = v.bytes ∙ ap (λ (l : List ℕ). l ++ u) w.bytes ∙ append_assoc (take at a) t u;
      rest = v.rest ∙ rw v.next (later a b m (length u) w.rest);
    }

-- one byte at a place inside the buffer
pub byte : (out : List ℕ) (r b : ℕ) → r < length out → Wrote out r (b ∷ []) (set out r b) (r + 1)
byte out r b h = record { next = refl; bytes = rw add-one (take-suc-set out r b h); rest = drop-set-lt (r + 1) out r b (omega arith) }

-- the next byte of a word
pub next_byte : (out₀ out word : List ℕ) (at i : ℕ) → Wrote out₀ at (take i word) out (at + i) → i < length word → at + i < length out
    → Wrote out₀ at (take (i + 1) word) (set out (at + i) (get_or word i 0)) (at + (i + 1))
next_byte out₀ out word at i w h g = rw (add-one i, take-suc word i 0 h, ← add-one i, ← add_assoc at i 1) (both w (byte out (at + i) (get_or word i 0) g))

-- what was written lies inside the buffer
pub inside : {before text after : List ℕ} {at r : ℕ} → Wrote before at text after r → at ≤ length before → r ≤ length after
inside {before} {text} {after} {at} {r} w h =
    let kept : length (take at before) ≡ at = length-take-le at before h in
    let all : min r (length after) ≡ length (take at before) + length text = sym (length-take r after) ∙ ap length w.bytes ∙ length-append (take at before) text in
    omega (arith, w.next)

-- the whole buffer afterwards
pub whole : {before text after : List ℕ} {at r : ℕ} → Wrote before at text after r → after ≡ (take at before ++ text) ++ drop (at + length text) before
whole {before} {text} {after} {at} {r} w = sym (take-append-drop r after) ∙ rw (w.bytes, w.rest, w.next)

-- any two results that the promise of a writer allows are equal
pub same_place : {before text a b : List ℕ} {at r s : ℕ} → Wrote before at text a r → Wrote before at text b s → r ≡ s
same_place w v = w.next ∙ sym v.next

pub same_buffer : {before text a b : List ℕ} {at r s : ℕ} → Wrote before at text a r → Wrote before at text b s → a ≡ b
same_buffer w v = whole w ∙ sym (whole v)
