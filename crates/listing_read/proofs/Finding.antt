-- The next state of a block agrees with the lines: laws of its definition. Assumes nothing.
use Prim.Native.Nat.{ℕ, ◌+◌, ◌<◌, ◌≤◌}
use mathlib.Core.List.{List, [], ◌∷◌, ◌++◌}
use mathlib.Core.Path.{◌≡◌, refl, sym, ap, subst, ◌∙◌}
use native.Mathlib.Numerals.{add-one}
use native.Mathlib.Omega.{arith}
use borrow.Author.Tests.{eq-eqb, ne_eqb}
use lib.ListN.{length, get_or, drop, drop_of_length-le, length-drop}
use lib.Seq.{drop-cons, drop-drop}
use Rattle.listing_scan.specs.declared.Row.{Row}
use Rattle.std.specs.Prelude.{Option, Some, None}
use Rattle.listing_scan.specs.declared.Scan.{Scan}
use Rattle.listing_scan.specs.declared.Scan.TheVariants.{Start}
use Rattle.listing_read.specs.Form.{rows_of}
use Rattle.listing_scan.specs.Bytes.{on_byte}
use Rattle.listing_read.specs.Bytes.{kinds_from, row_here, behind_byte, found_or, searched, next_row, Passes, Finds}
use Rattle.listing_scan.proofs.Taking.{by_eq, takes}
use Rattle.listing_read.proofs.Lines.{passes_feed, passes_byte}

pub passes : (s : Scan) (b : ℕ) → Passes s b (behind_byte s b)
passes s b =
    by_eq b 10
    (λ e. let r : Start ≡ behind_byte s b = rw (eq-eqb b 10 e) in subst (Passes s b) r (passes_feed s b e))
    (λ n. let r : on_byte s b ≡ behind_byte s b = rw (ne_eqb b 10 n) in subst (Passes s b) r (passes_byte s (on_byte s b) b n (takes s b)))

-- ---- the next state of a block

pub search_on : (block : List ℕ) (i : ℕ) (s : Scan) → i < length block
    → next_row block i s ≡ found_or (row_here s (get_or block i 0)) (behind_byte s (get_or block i 0)) (i + 1) (next_row block (i + 1) (behind_byte s (get_or block i 0)))
unfolding searched
search_on block i s h = rw (drop-cons block i 0 h, add-one i)

pub search_ends : (block : List ℕ) (i : ℕ) (s : Scan) → length block ≤ i → next_row block i s ≡ record { found = None; scan = s; at = i }
unfolding searched
search_ends block i s h = rw (drop_of_length-le block h)

module _ (b : ℕ) (bytes block : List ℕ) (i : ℕ) (s : Scan) (e : drop i block ≡ b ∷ bytes) where
  next_drop : drop (i + 1) block ≡ bytes
  next_drop = sym (drop-drop 1 i block) ∙ ap (drop 1) e

  found_here : (f : Option Row) → row_here s b ≡ f → Finds block (i + 1) (behind_byte s b) (searched bytes (i + 1) (behind_byte s b))
      → Finds block i s (found_or f (behind_byte s b) (i + 1) (searched bytes (i + 1) (behind_byte s b)))
  found_here (Some r) h later =
      record {
        rows = λ rest. rw (e, next_drop) (passes s b (bytes ++ rest) ∙ rw h);
        ended = λ n. (let z : ◌≡◌ {A = ℕ} 0 1 = cc in absurd (omega arith));
      }
  found_here None h later =
      record {
        rows = λ rest.
            rw e (passes s b (bytes ++ rest) ∙ rw h (ap (λ (l : List ℕ). rows_of (kinds_from (behind_byte s b) (l ++ rest))) (sym next_drop) ∙ later.rows rest));
        ended = later.ended;
      }

finds_from : (bytes block : List ℕ) (i : ℕ) (s : Scan) → drop i block ≡ bytes → Finds block i s (searched bytes i s)
unfolding searched
finds_from [] block i s e = record { rows = λ rest. refl; ended = λ n. omega (arith, length-drop i block, ap length e) }
finds_from (b ∷ bytes) block i s e = found_here b bytes block i s e (row_here s b) refl (finds_from bytes block (i + 1) (behind_byte s b) (next_drop b bytes block i s e))

pub finds : (block : List ℕ) (at : ℕ) (s : Scan) → Finds block at s (next_row block at s)
finds block at s = finds_from (drop at block) block at s refl
