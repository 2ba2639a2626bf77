-- The texts of the form are read as their kinds. Assumes nothing.
use Prim.Native.Nat.{ℕ, zero, suc, ◌+◌, ◌*◌, ◌/◌, ◌%◌, ◌^◌, ◌<◌}
use mathlib.Core.List.{List, [], ◌∷◌, ◌++◌, append_assoc, append-nil}
use mathlib.Core.Path.{◌≡◌, refl, sym, ap, ◌∙◌}
use native.Mathlib.Nat.{pow-succ'}
use native.Mathlib.Omega.{arith}
use borrow.Author.Tests.{lt-ltb, le-ltb, le-leb, lt-leb}
use Rattle.base.specs.Limits.{end_of_time}
use Rattle.text_write.specs.Numerals.{glyph, hex16, decimal_of}
use Rattle.text_write.specs.Numerals as text
use Rattle.text_write.proofs.Decimal.{by_size}
use Rattle.listing_words.specs.Words.{refused_word}
use Rattle.listing_lines.proofs.Laws.{finite_told}
use Rattle.listing_scan.specs.declared.Row.{Row}
use Rattle.listing_scan.specs.declared.Line.{Line}
use Rattle.listing_scan.specs.declared.Line.TheVariants as line
use Rattle.listing_scan.specs.Line.{FiniteBits, header_text, arrived_text, refused_text, lone_text, behind_spaces, six_of, row_text, AllFinite}
use Rattle.listing_scan.specs.Reading.{hex_value, nothing, word, number, digits, header_line, arrived_line, refused_line, component, pushed, components, blank, moment_from, kind_of}
use Rattle.listing_laws.proofs.Numbers.{number_read, moment_kind}

-- ---- header, outcome and lone refusal

number_ends : (ends : Line) (after : List ℕ → Line) (n : ℕ) → number ends after (decimal_of n) ≡ ends
unfolding digits
number_ends ends after n = ap (number ends after) (sym (append-nil (decimal_of n))) ∙ number_read ends after n n [] (omega arith)

number_goes_on : (ends : Line) (after : List ℕ → Line) (n : ℕ) (rest : List ℕ) → number ends after (decimal_of n ++ (32 ∷ rest)) ≡ after rest
unfolding digits
number_goes_on ends after n rest = number_read ends after n n (32 ∷ rest) (omega arith)

pub header_kind : (h : ℕ) → kind_of (header_text h) ≡ line.Header
unfolding kind_of header_line word
header_kind h = number_ends line.Header nothing h

pub arrived_kind : (n : ℕ) → kind_of (arrived_text n) ≡ line.Outcome
unfolding kind_of arrived_line word
arrived_kind n = number_ends line.Outcome nothing n

pub lone_kind : (k : ℕ) → kind_of (lone_text k) ≡ line.Lone
unfolding kind_of refused_line word
lone_kind k = number_ends line.Lone (number line.Outcome nothing) k

-- two numbers behind a word, with the space at the second
pub two_numbers_lem : (k n : ℕ) → refused_text k n ≡ refused_word ++ (decimal_of k ++ (32 ∷ decimal_of n))
two_numbers_lem k n = ap (λ (l : List ℕ). refused_word ++ l) (append_assoc (decimal_of k) (32 ∷ []) (decimal_of n))

pub refused_kind : (k n : ℕ) → kind_of (refused_text k n) ≡ line.Outcome
unfolding kind_of refused_line word
refused_kind k n =
    ap kind_of (two_numbers_lem k n)
    ∙ number_goes_on line.Lone (number line.Outcome nothing) k (decimal_of n) ∙ number_ends line.Outcome nothing n

-- ---- a component: 16 digits

hex_glyph : (d : ℕ) → d < 16 → hex_value (glyph d) ≡ d
hex_glyph d h =
    by_size d
    (λ small. rw (lt-ltb d 10 small, le-leb 48 (48 + d) (omega arith), le-leb (48 + d) 57 (omega arith)) (omega arith))
    (λ big. rw (le-ltb d 10 big, le-leb 48 (87 + d) (omega arith), lt-leb (87 + d) 57 (omega arith), le-leb 97 (87 + d) (omega arith), le-leb (87 + d) 102 (omega arith)) (omega arith))

module _ (after : ℕ → List ℕ → Line) where
  hex_more : (j n d : ℕ) (rest : List ℕ) → d < 16 → 16 * n + d < 0x1_0000_0000_0000_0000 → component (suc j) n after (glyph d ∷ rest) ≡ component j (16 * n + d) after rest
  unfolding component
  hex_more j n d rest h f =
      let e : (16 * n + d) % 0x1_0000_0000_0000_0000 ≡ 16 * n + d = omega arith in
      rw (hex_glyph d h, lt-ltb d 16 h, e)

  hex_read : (k j n : ℕ) (rest : List ℕ) → n < 16 ^ k → n < 0x1_0000_0000_0000_0000 → component (j + k) 0 after (text.digits 16 k n ++ rest) ≡ component j n after rest
  unfolding text.digits
  hex_read zero j n rest h f =
      let e : n ≡ 0 = omega arith in
      let q : j + 0 ≡ j = omega arith in
      rw (e, q)
  hex_read (suc k) j n rest h f =
      let p : 16 ^ suc k ≡ 16 * 16 ^ k = pow-succ' 16 k in
      let e : 16 * (n / 16) + n % 16 ≡ n = omega arith in
      let q : j + suc k ≡ suc j + k = omega arith in
      ap (λ (l : List ℕ). component (j + suc k) 0 after l) (append_assoc (text.digits 16 k (n / 16)) (glyph (n % 16) ∷ []) rest)
      ∙ ap (λ (i : ℕ). component i 0 after (text.digits 16 k (n / 16) ++ (glyph (n % 16) ∷ rest))) q
      ∙ hex_read k (suc j) (n / 16) (glyph (n % 16) ∷ rest) (omega arith) (omega arith)
      ∙ hex_more j (n / 16) (n % 16) rest (omega arith) (omega arith)
      ∙ ap (λ (i : ℕ). component j i after rest) e

  pub component_read : (n : ℕ) (rest : List ℕ) → n < 0x1_0000_0000_0000_0000 → component 16 0 after (hex16 n ++ rest) ≡ after n rest
  unfolding component
  component_read n rest f = hex_read 16 0 n rest f f

-- ---- a state

pub no_more : (r : Row) → components 0 r [] ≡ line.State r
unfolding components
no_more r = refl

component_on : (more bits : ℕ) (before : Row) (rest : List ℕ) → FiniteBits bits → components (suc more) before (32 ∷ (hex16 bits ++ rest)) ≡ components more (pushed before bits) rest
unfolding components word
component_on more bits before rest f = component_read _ bits rest f.0 ∙ rw ((finite_told bits f.0).1 f)

space_first : (t : ℕ) (rest : List ℕ) → moment_from t (32 ∷ rest) ≡ components 6 (blank t) (32 ∷ rest)
unfolding moment_from
space_first t rest = refl

pub row_kind : (r : Row) → r.moment < end_of_time → AllFinite (six_of r) → kind_of (row_text r) ≡ line.State r
unfolding row_text
row_kind r h f =
    moment_kind r.moment (behind_spaces (six_of r)) h
    ∙ space_first r.moment _
    ∙ component_on 5 r.x _ _ f.0
    ∙ component_on 4 r.y _ _ f.1.0
    ∙ component_on 3 r.z _ _ f.1.1.0
    ∙ component_on 2 r.vx _ _ f.1.1.1.0
    ∙ component_on 1 r.vy _ _ f.1.1.1.1.0
    ∙ component_on 0 r.vz _ _ f.1.1.1.1.1.0
    ∙ no_more r
