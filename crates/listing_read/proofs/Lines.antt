-- The kinds of a text's lines, read byte by byte, are those of its lines. Assumes nothing.
use Prim.Native.Nat.{ℕ, suc, ◌+◌, ◌<◌}
use mathlib.Core.List.{List, [], ◌∷◌, ◌++◌, map}
use mathlib.Core.Path.{◌≡◌, refl, sym, ap, subst}
use native.Mathlib.Numerals.{add-one}
use borrow.Author.Tests.{ne_eqb}
use lib.ListN.{length, get_or, drop}
use lib.Seq.{drop-cons}
use Rattle.std.specs.Prelude.{Option}
use Rattle.listing_scan.specs.declared.Row.{Row}
use Rattle.listing_scan.specs.declared.Line.{Line}
use Rattle.listing_scan.specs.declared.Scan.{Scan}
use Rattle.listing_scan.specs.declared.Scan.TheVariants.{Start}
use Rattle.listing_scan.specs.Reading.{kind_of}
use Rattle.listing_read.specs.Form.{in_first, lines_of, kinds_of, found_rows, rows_of}
use Rattle.listing_scan.specs.Bytes.{told, Takes}
use Rattle.listing_read.specs.Bytes.{kinds_after, kinds_from, row_here, Passes}

at_start : (ls : List (List ℕ)) → kinds_after Start ls ≡ map kind_of ls
unfolding told
at_start [] = refl
at_start (l ∷ ls) = refl

-- before the first byte of a text
pub kinds_start : (text : List ℕ) → kinds_from Start text ≡ kinds_of text
unfolding kinds_from kinds_of
kinds_start text = at_start (lines_of text)

-- a line feed ends the line
pub kinds_feed : (s : Scan) (text : List ℕ) → kinds_from s (10 ∷ text) ≡ told s [] ∷ kinds_from Start text
unfolding kinds_from lines_of
kinds_feed s text = ap (λ (ls : List Line). told s [] ∷ ls) (sym (at_start (lines_of text)))

in_first_lem : (s r : Scan) (b : ℕ) → Takes s b r → (ls : List (List ℕ)) → kinds_after s (in_first b ls) ≡ kinds_after r ls
in_first_lem s r b t [] = rw t.on (ap (λ (l : Line). l ∷ []) (t.same []))
in_first_lem s r b t (l ∷ ls) = ap (λ (k : Line). k ∷ map kind_of ls) (t.same l)

-- any other byte belongs to the line
pub kinds_byte : (s r : Scan) (b : ℕ) (text : List ℕ) → (b ≡ 10 → ⊥) → Takes s b r → kinds_from s (b ∷ text) ≡ kinds_from r text
unfolding kinds_from lines_of
kinds_byte s r b text n t = rw (ne_eqb b 10 n) (in_first_lem s r b t (lines_of text))

feed_passes : (s : Scan) → Passes s 10 Start
unfolding rows_of
feed_passes s rest = rw (kinds_feed s rest)

pub passes_feed : (s : Scan) (b : ℕ) → b ≡ 10 → Passes s b Start
passes_feed s b e = subst (λ (n : ℕ). Passes s n Start) (sym e) (feed_passes s)

pub passes_byte : (s r : Scan) (b : ℕ) → (b ≡ 10 → ⊥) → Takes s b r → Passes s b r
passes_byte s r b n t rest = rw (ne_eqb b 10 n) (ap rows_of (kinds_byte s r b rest n t))

-- the next byte of a block
pub finds_on : (block rest : List ℕ) (i : ℕ) (s r : Scan) (f : Option Row) → i < length block → f ≡ row_here s (get_or block i 0) → Passes s (get_or block i 0) r
    → rows_of (kinds_from s (drop i block ++ rest)) ≡ found_rows f ++ rows_of (kinds_from r (drop (i + 1) block ++ rest))
finds_on block rest i s r f h e p = rw (drop-cons block i 0 h, add-one i, e) (p (drop (suc i) block ++ rest))
