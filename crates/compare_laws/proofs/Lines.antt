-- The line of a state as strip writes it is of the form, and no line of strip has a line feed inside. Assumes nothing.
use Prim.Native.Nat.{ℕ, zero, suc, ◌+◌, ◌/◌, ◌%◌, ◌<◌, ◌≤◌}
use mathlib.Core.Bool.{true}
use mathlib.Core.List.{List, [], ◌∷◌, ◌++◌, append_assoc, append-nil}
use mathlib.Core.Path.{◌≡◌, refl, sym, ap, subst, ◌∙◌}
use native.Mathlib.Omega.{arith}
use borrow.Author.Tests.{lt-ltb, le-ltb, ltb-true}
use lib.Dec.{T}
use lib.Ieee.{Float, nan, inf, fin, binary64, fits, of_bits, to_bits}
use lib.Ieee.Bits.{of_bits-to_bits, to_bits-lt}
use lib.Ieee.Scale.{finite}
use Rattle.base.specs.Limits.{end_of_time}
use Rattle.state.specs.State.{position, velocity}
use Rattle.state.specs.declared.Vector.{Vector}
use Rattle.state.specs.declared.State.{State}
use Rattle.text_write.specs.Numerals.{glyph, hex16, decimal_of, float_text}
use Rattle.text_write.specs.Numerals as text
use Rattle.text_write.proofs.Decimal.{by_size, decimal_short, decimal_long}
use Rattle.base_bytes.proofs.FiniteBits.{finite_bits_lem}
use Rattle.listing_words.specs.Words.{strip_word, arrived_word, refused_word}
use Rattle.listing_write.specs.Lines.{spaced, vector_text}
use Rattle.listing_scan.specs.declared.Row.{Row}
use Rattle.listing_scan.specs.declared.Line.TheVariants as line
use Rattle.listing_scan.specs.Line.{FiniteBits, behind_spaces, row_text}
use Rattle.listing_scan.specs.Reading.{kind_of}
use Rattle.listing_laws.proofs.Numbers.{glyph_small}
use Rattle.listing_laws.proofs.OnlyIf.{kind_only_if}
use Rattle.compare_laws.proofs.Texts.{Plain, plain_none, plain_on, plain_append}

-- ---- no digit is a line feed

pub decimal_plain : (most n : ℕ) → n ≤ most → Plain (decimal_of n)
decimal_plain zero n h = subst Plain (sym (decimal_short n (omega arith))) (plain_on [] (glyph n) plain_none (λ e. omega (arith, glyph_small n (omega arith))))
decimal_plain (suc most) n h =
    by_size n
    (λ small. subst Plain (sym (decimal_short n small)) (plain_on [] (glyph n) plain_none (λ e. omega (arith, glyph_small n small))))
    (λ big. subst Plain (sym (decimal_long n big))
    (plain_on (decimal_of (n / 10)) (glyph (n % 10)) (decimal_plain most (n / 10) (omega arith)) (λ e. omega (arith, glyph_small (n % 10) (omega arith)))))

pub hex_plain : (k n : ℕ) → Plain (text.digits 16 k n)
unfolding text.digits
hex_plain zero n = plain_none
hex_plain (suc k) n =
    plain_on (text.digits 16 k (n / 16)) (glyph (n % 16)) (hex_plain k (n / 16))
    (λ e. by_size (n % 16) (λ small. let q : glyph (n % 16) ≡ 48 + n % 16 = rw (lt-ltb (n % 16) 10 small) in omega arith)
    (λ big. let q : glyph (n % 16) ≡ 87 + n % 16 = rw (le-ltb (n % 16) 10 big) in omega arith))

-- ---- a float that fits its format and is finite

pub record Fine (x : Float) : Type 0 where
  pub is_finite : finite x ≡ true
  pub is_fit : T (fits binary64 x)

pub fine_text : (x : Float) → finite x ≡ true → float_text x ≡ hex16 (to_bits binary64 x)
unfolding float_text
fine_text nan h = let z : ◌≡◌ {A = ℕ} 0 1 = cc in absurd (omega arith)
fine_text (inf s) h = refl
fine_text (fin s m e) h = refl

fine_bits : (x : Float) → Fine x → FiniteBits (to_bits binary64 x)
fine_bits x f = (to_bits-lt binary64 x f.is_fit, ltb-true _ _ (sym (finite_bits_lem (to_bits binary64 x)) ∙ ap finite (of_bits-to_bits binary64 x f.is_fit) ∙ f.is_finite))

-- ---- a state's line

pub record FineVector (v : Vector) : Type 0 where
  pub x_fine : Fine v.x
  pub y_fine : Fine v.y
  pub z_fine : Fine v.z

abbrev bits_in : Vector → List ℕ
bits_in v = to_bits binary64 v.x ∷ to_bits binary64 v.y ∷ to_bits binary64 v.z ∷ []

vector_text_lem : (v : Vector) (more : List ℕ) → FineVector v → vector_text v ++ behind_spaces more ≡ behind_spaces (bits_in v ++ more)
unfolding vector_text
vector_text_lem v more f =
    append_assoc (spaced v.x ++ spaced v.y) (spaced v.z) (behind_spaces more)
    ∙ append_assoc (spaced v.x) (spaced v.y) (spaced v.z ++ behind_spaces more)
    ∙ rw (fine_text v.x f.x_fine.is_finite, fine_text v.y f.y_fine.is_finite, fine_text v.z f.z_fine.is_finite)

-- the row that the line of a state is read as
abbrev pub row_for : State → Row
row_for s =
    record {
      moment = s.moment;
      x = to_bits binary64 s.x;
      y = to_bits binary64 s.y;
      z = to_bits binary64 s.z;
      vx = to_bits binary64 s.vx;
      vy = to_bits binary64 s.vy;
      vz = to_bits binary64 s.vz;
    }

abbrev pub state_text : State → List ℕ
state_text s = decimal_of s.moment ++ vector_text (position s) ++ vector_text (velocity s)

pub record FineState (s : State) : Type 0 where
  pub inside : s.moment < end_of_time
  pub position_fine : FineVector (position s)
  pub velocity_fine : FineVector (velocity s)

-- strip writes the text of the row
pub as_strip_writes : (s : State) → FineState s → state_text s ≡ row_text (row_for s)
unfolding row_text
as_strip_writes s f =
    let p = vector_text (position s) in
    let v : vector_text (velocity s) ≡ behind_spaces (bits_in (velocity s)) = sym (append-nil _) ∙ vector_text_lem (velocity s) [] f.velocity_fine in
    append_assoc (decimal_of s.moment) p (vector_text (velocity s))
    ∙ ap (λ (l : List ℕ). decimal_of s.moment ++ (p ++ l)) v
    ∙ ap (λ (l : List ℕ). decimal_of s.moment ++ l) (vector_text_lem (position s) (bits_in (velocity s)) f.position_fine)

pub state_line_kind : (s : State) → FineState s → kind_of (state_text s) ≡ line.State (row_for s)
state_line_kind s f =
    let p = f.position_fine in
    let v = f.velocity_fine in
    let b = fine_bits in
    (kind_only_if (state_text s) (line.State (row_for s))).1
    (record {
      text = as_strip_writes s f;
      moment = f.inside;
      components = (b _ p.x_fine, (b _ p.y_fine, (b _ p.z_fine, (b _ v.x_fine, (b _ v.y_fine, (b _ v.z_fine, tt))))));
    })

-- ---- none of these lines has a line feed inside

pub space_plain : Plain (32 ∷ [])
space_plain = plain_on [] 32 plain_none (λ e. omega arith)

float_plain : (x : Float) → Fine x → Plain (spaced x)
float_plain x f = plain_append (32 ∷ []) (float_text x) space_plain (subst Plain (sym (fine_text x f.is_finite)) (hex_plain 16 (to_bits binary64 x)))

vector_plain : (v : Vector) → FineVector v → Plain (vector_text v)
unfolding vector_text
vector_plain v f =
    plain_append (spaced v.x ++ spaced v.y) (spaced v.z)
    (plain_append (spaced v.x) (spaced v.y) (float_plain v.x f.x_fine) (float_plain v.y f.y_fine)) (float_plain v.z f.z_fine)

pub state_plain : (s : State) → FineState s → Plain (state_text s)
state_plain s f =
    plain_append (decimal_of s.moment ++ vector_text (position s)) (vector_text (velocity s))
    (plain_append (decimal_of s.moment) (vector_text (position s)) (decimal_plain s.moment s.moment (omega arith)) (vector_plain (position s) f.position_fine))
    (vector_plain (velocity s) f.velocity_fine)

byte_on : (b : ℕ) (l : List ℕ) → (b ≡ 10 → ⊥) → Plain l → Plain (b ∷ l)
byte_on b l n p = plain_append (b ∷ []) l (plain_on [] b plain_none n) p

pub strip_plain : Plain strip_word
strip_plain = byte_on 83 _ (λ e. omega arith) (byte_on 84 _ (λ e. omega arith) (byte_on 82 _ (λ e. omega arith) (byte_on 73 _ (λ e. omega arith) (byte_on 80 _ (λ e. omega arith) space_plain))))

pub arrived_plain : Plain arrived_word
arrived_plain =
    byte_on 65 _ (λ e. omega arith)
    (byte_on 82 _ (λ e. omega arith)
    (byte_on 82 _ (λ e. omega arith) (byte_on 73 _ (λ e. omega arith) (byte_on 86 _ (λ e. omega arith) (byte_on 69 _ (λ e. omega arith) (byte_on 68 _ (λ e. omega arith) space_plain))))))

pub refused_plain : Plain refused_word
refused_plain =
    byte_on 82 _ (λ e. omega arith)
    (byte_on 69 _ (λ e. omega arith)
    (byte_on 70 _ (λ e. omega arith) (byte_on 85 _ (λ e. omega arith) (byte_on 83 _ (λ e. omega arith) (byte_on 69 _ (λ e. omega arith) (byte_on 68 _ (λ e. omega arith) space_plain))))))

pub numbered_plain : (word : List ℕ) (n : ℕ) → Plain word → Plain (word ++ decimal_of n)
numbered_plain word n p = plain_append word (decimal_of n) p (decimal_plain n n (omega arith))
