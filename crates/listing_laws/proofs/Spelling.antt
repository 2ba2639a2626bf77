-- A line that is read as some kind, and not as Bad, is a text of that kind and no other. Assumes nothing.
use Prim.Native.Nat.{ℕ, zero, suc, ◌+◌, ◌-◌, ◌*◌, ◌/◌, ◌%◌, ◌^◌, ◌<◌, ◌≤◌}
use mathlib.Core.Bool.{Bool, true, false, ◌&&◌}
use mathlib.Core.List.{List, [], ◌∷◌, ◌++◌, append_assoc, append-nil}
use mathlib.Core.Logic.{inl, inr}
use mathlib.Core.Path.{◌≡◌, refl, sym, ap, ap₂, subst, ◌∙◌}
use native.Mathlib.Nat.{pow-succ', pow-le-pow_right}
use native.Mathlib.Omega.{arith}
use borrow.Author.Tests.{lt-ltb, le-ltb, le-leb, lt-leb, ltb-true, leb-true, leb-false, eqb-true}
use lib.Dec.{ltb, leb, eqb}
use lib.ListN.{drop}
use Rattle.base.specs.Choice.{if◌then◌otherwise◌}
use Rattle.base.specs.Limits.{end_of_time, is_moment}
use Rattle.base.proofs.Bools.{halves}
use Rattle.text_write.specs.Numerals.{glyph, hex16, decimal_of}
use Rattle.text_write.specs.Numerals as text
use Rattle.text_write.proofs.Decimal.{decimal_short, decimal_long}
use Rattle.listing_words.specs.Words.{strip_word, arrived_word, refused_word}
use Rattle.listing_lines.proofs.Laws.{finite_told}
use Rattle.listing_scan.specs.declared.Row.{Row}
use Rattle.listing_scan.specs.declared.Line.{Line}
use Rattle.listing_scan.specs.declared.Line.TheVariants as line
use Rattle.listing_scan.specs.Line.{FiniteBits, behind_spaces, six_of, row_text, AllFinite, LineOf, HasKind}
use Rattle.listing_scan.specs.Reading.{is_decimal, hex_value, appended, nothing, word, number, digits, header_line, arrived_line, refused_line}
use Rattle.listing_scan.specs.Reading.{finite_bits, component, pushed, components, blank, moment_from, state_line, kind_of}
use Rattle.listing_laws.proofs.Numbers.{glyph_small, above_zero}
use Rattle.listing_laws.proofs.Texts.{two_numbers_lem}

-- ---- a digit is one byte

by_test : (t : Bool) (a b : ℕ) {P : Type 0} → leb a b ≡ t → (a ≤ b → P) → (b < a → P) → P
by_test true a b e low high = low (leb-true a b e)
by_test false a b e low high = high (leb-false a b e)

by_le : (a b : ℕ) {P : Type 0} → (a ≤ b → P) → (b < a → P) → P
by_le a b low high = by_test (leb a b) a b refl low high

-- a hexadecimal digit's byte is that of its value
hex_back : (b : ℕ) → hex_value b < 16 → glyph (hex_value b) ≡ b
hex_back b h =
    by_le 48 b
    (λ p. by_le b 57
    (λ q. let v : hex_value b ≡ b - 48 = rw (le-leb 48 b p, le-leb b 57 q) in rw (v, lt-ltb (b - 48) 10 (omega arith)) (omega arith))
    (λ q. by_le 97 b
    (λ s. by_le b 102
    (λ u. let v : hex_value b ≡ b - 87 = rw (le-leb 48 b p, lt-leb b 57 q, le-leb 97 b s, le-leb b 102 u) in rw (v, le-ltb (b - 87) 10 (omega arith)) (omega arith))
    (λ u. let v : hex_value b ≡ 16 = rw (le-leb 48 b p, lt-leb b 57 q, le-leb 97 b s, lt-leb b 102 u) in absurd (omega arith)))
    (λ s. let v : hex_value b ≡ 16 = rw (le-leb 48 b p, lt-leb b 57 q, lt-leb 97 b s) in absurd (omega arith))))
    (λ p. let v : hex_value b ≡ 16 = rw (lt-leb 48 b p, lt-leb 97 b (omega arith)) in absurd (omega arith))

decimal_byte : (b : ℕ) → is_decimal b ≡ true → (48 ≤ b) × (b ≤ 57)
decimal_byte b e = let h = halves (leb 48 b) (leb b 57) e in (leb-true 48 b h.0, leb-true b 57 h.1)

first_digit : (b : ℕ) (rest : List ℕ) → 48 ≤ b → b ≤ 57 → decimal_of (b - 48) ++ rest ≡ b ∷ rest
first_digit b rest h g =
    let d : glyph (b - 48) ≡ b = glyph_small (b - 48) (omega arith) ∙ omega arith in
    ap (λ (l : List ℕ). l ++ rest) (decimal_short (b - 48) (omega arith)) ∙ ap (λ (k : ℕ). k ∷ rest) d

digit_on : (t b : ℕ) (rest : List ℕ) → 0 < t → 48 ≤ b → b ≤ 57 → decimal_of (10 * t + (b - 48)) ++ rest ≡ decimal_of t ++ (b ∷ rest)
digit_on t b rest some h g =
    let q : (10 * t + (b - 48)) / 10 ≡ t = omega arith in
    let m : (10 * t + (b - 48)) % 10 ≡ b - 48 = omega arith in
    let d : glyph (b - 48) ≡ b = glyph_small (b - 48) (omega arith) ∙ omega arith in
    let is : decimal_of (10 * t + (b - 48)) ≡ decimal_of t ++ (b ∷ []) = rw (decimal_long (10 * t + (b - 48)) (omega arith), q, m, d) in
    ap (λ (l : List ℕ). l ++ rest) is ∙ append_assoc (decimal_of t) (b ∷ []) rest

one_digit : (j n d b : ℕ) (rest : List ℕ) → d < 16 → glyph d ≡ b → text.digits 16 (suc j) (16 * n + d) ++ rest ≡ text.digits 16 j n ++ (b ∷ rest)
unfolding text.digits
one_digit j n d b rest h e =
    let q : (16 * n + d) / 16 ≡ n = omega arith in
    let m : (16 * n + d) % 16 ≡ d = omega arith in
    let is : text.digits 16 (suc j) (16 * n + d) ≡ text.digits 16 j n ++ (b ∷ []) = rw (q, m, e) in
    ap (λ (l : List ℕ). l ++ rest) is ∙ append_assoc (text.digits 16 j n) (b ∷ []) rest

none_yet : (rest : List ℕ) → text.digits 16 0 0 ++ rest ≡ rest
unfolding text.digits
none_yet rest = refl

-- ---- what a text is if it is read as k

-- a word and a rest, of which the judge says k
record Worded (ws : List ℕ) (after : List ℕ → Line) (k : Line) (given : List ℕ) : Type 0 where
  pub rest : List ℕ
  pub is : given ≡ ws ++ rest
  pub goes_on : after rest ≡ k

-- a number alone, or a number, a space and a rest
data Numbered (ends : Line) (after : List ℕ → Line) (k : Line) (given : List ℕ) : Type 0 where
  alone : (n : ℕ) → given ≡ decimal_of n → ends ≡ k → Numbered ends after k given
  spaced : (n : ℕ) (rest : List ℕ) → given ≡ decimal_of n ++ (32 ∷ rest) → after rest ≡ k → Numbered ends after k given

-- the digits of some bits and a rest
record Spelled (after : ℕ → List ℕ → Line) (k : Line) (given : List ℕ) : Type 0 where
  pub bits : ℕ
  pub rest : List ℕ
  pub is : given ≡ hex16 bits ++ rest
  pub fits : bits < 0x1_0000_0000_0000_0000
  pub goes_on : after bits rest ≡ k

-- one component and the rest of the line
record OneMore (more : ℕ) (before : Row) (k : Line) (given : List ℕ) : Type 0 where
  pub bits : ℕ
  pub rest : List ℕ
  pub is : given ≡ 32 ∷ (hex16 bits ++ rest)
  pub finite : FiniteBits bits
  pub goes_on : components more (pushed before bits) rest ≡ k

-- the components to come, which push those before them out
record Listed (more : ℕ) (before : Row) (k : Line) (given : List ℕ) : Type 0 where
  pub row : Row
  pub state : line.State row ≡ k
  pub numbers : List ℕ
  pub is : given ≡ behind_spaces numbers
  pub finite : AllFinite numbers
  pub six : six_of row ≡ drop more (six_of before ++ numbers)
  pub moment : row.moment ≡ before.moment

record StateRead (k : Line) (given : List ℕ) : Type 0 where
  pub row : Row
  pub state : line.State row ≡ k
  pub line_of : LineOf given row

abbrev finite_then : ℕ → Row → ℕ → List ℕ → Line
finite_then more before bits behind = if finite_bits bits then components more (pushed before bits) behind otherwise line.Bad

-- a line is read as k, and k is not Bad
module _ (k : Line) (good : line.Bad ≡ k → ⊥) where
  -- ---- words and numbers

  word_back : (ws : List ℕ) (after : List ℕ → Line) (given : List ℕ) → word ws after given ≡ k → Worded ws after k given
  unfolding word
  word_back [] after given e = record { rest = given; is = refl; goes_on = e }
  word_back (w ∷ ws) after [] e = absurd (good e)
  word_back (w ∷ ws) after (b ∷ rest) e = go (eqb b w) refl e (word_back ws after rest)
    where
      go : (t : Bool) → eqb b w ≡ t → (if t then word ws after rest otherwise line.Bad) ≡ k → (word ws after rest ≡ k → Worded ws after k rest) → Worded (w ∷ ws) after k (b ∷ rest)
      go true q e later = let o = later e in
          record { rest = o.rest; is = ap₂ (λ (x : ℕ) (l : List ℕ). x ∷ l) (eqb-true b w q) o.is; goes_on = o.goes_on }
      go false q e later = absurd (good e)

  module _ (ends : Line) (after : List ℕ → Line) where
    digits_back : (rest : List ℕ) (n : ℕ) → digits (ltb 0 n) ends after rest ≡ k → Numbered ends after k (decimal_of n ++ rest)
    unfolding digits
    digits_back [] n e = alone n (append-nil (decimal_of n)) e
    digits_back (b ∷ rest) n e = go (eqb b 32) refl (ltb 0 n && is_decimal b) refl e (digits_back rest)
      where
        go : (s : Bool) → eqb b 32 ≡ s → (t : Bool) → (ltb 0 n && is_decimal b) ≡ t → (if s then after rest otherwise if t then digits (ltb 0 n) ends after rest otherwise line.Bad) ≡ k
            → ((n : ℕ) → digits (ltb 0 n) ends after rest ≡ k → Numbered ends after k (decimal_of n ++ rest)) → Numbered ends after k (decimal_of n ++ (b ∷ rest))
        go true q t u e later = spaced n rest (ap (λ (x : ℕ). decimal_of n ++ (x ∷ rest)) (eqb-true b 32 q)) e
        go false q true u e later =
            let two = halves (ltb 0 n) (is_decimal b) u in
            let some : 0 < n = ltb-true 0 n two.0 in
            let digit = decimal_byte b two.1 in
            let more : ltb 0 (10 * n + (b - 48)) ≡ ltb 0 n = lt-ltb 0 (10 * n + (b - 48)) (omega arith) ∙ sym two.0 in
            subst (Numbered ends after k) (digit_on n b rest some digit.0 digit.1) (later (10 * n + (b - 48)) (ap (λ (t : Bool). digits t ends after rest) more ∙ e))
        go false q false u e later = absurd (good e)

    number_back : (given : List ℕ) → number ends after given ≡ k → Numbered ends after k given
    unfolding number
    number_back [] e = absurd (good e)
    number_back (b ∷ rest) e = go (is_decimal b) refl e
      where
        go : (t : Bool) → is_decimal b ≡ t → (if t then digits (ltb 48 b) ends after rest otherwise line.Bad) ≡ k → Numbered ends after k (b ∷ rest)
        go true q e =
            let digit = decimal_byte b q in
            let low = digit.0 in
            let is : 48 + (b - 48) ≡ b = omega arith in
            let more : ltb 0 (b - 48) ≡ ltb 48 b = sym (above_zero (b - 48)) ∙ ap (ltb 48) is in
            subst (Numbered ends after k) (first_digit b rest low digit.1) (digits_back rest (b - 48) (ap (λ (t : Bool). digits t ends after rest) more ∙ e))
        go false q e = absurd (good e)

  -- ---- a component is its 16 digits

  module _ (after : ℕ → List ℕ → Line) where
    component_back : (left j n : ℕ) (rest : List ℕ) → j + left ≡ 16 → n < 16 ^ j → component left n after rest ≡ k → Spelled after k (text.digits 16 j n ++ rest)
    unfolding component
    component_back zero j n rest s h e =
        let all : j ≡ 16 = omega arith in
        let most : n < 16 ^ 16 = subst (λ (k : ℕ). n < 16 ^ k) all h in
        record { bits = n; rest = rest; is = ap (λ (k : ℕ). text.digits 16 k n ++ rest) all; fits = omega arith; goes_on = e }
    component_back (suc left) j n [] s h e = absurd (good e)
    component_back (suc left) j n (b ∷ rest) s h e = go (ltb (hex_value b) 16) refl e (component_back left)
      where
        go : (t : Bool) → ltb (hex_value b) 16 ≡ t → (if t then component left (appended n (hex_value b)) after rest otherwise line.Bad) ≡ k
            → ((j n : ℕ) (rest : List ℕ) → j + left ≡ 16 → n < 16 ^ j → component left n after rest ≡ k → Spelled after k (text.digits 16 j n ++ rest))
            → Spelled after k (text.digits 16 j n ++ (b ∷ rest))
        go true q e later =
            let small : hex_value b < 16 = ltb-true (hex_value b) 16 q in
            let p : 16 ^ suc j ≡ 16 * 16 ^ j = pow-succ' 16 j in
            let most : 16 ^ suc j ≤ 16 ^ 16 = pow-le-pow_right {n = 16} (omega arith) {i = suc j} {j = 16} (omega arith) in
            let fits : 16 * n + hex_value b < 16 ^ suc j = omega arith in
            let m : appended n (hex_value b) ≡ 16 * n + hex_value b = omega arith in
            subst (Spelled after k) (one_digit j n (hex_value b) b rest small (hex_back b small))
            (later (suc j) (16 * n + hex_value b) rest (omega arith) fits (subst (λ (i : ℕ). component left i after rest ≡ k) m e))
        go false q e later = absurd (good e)

    spelled : (rest : List ℕ) → component 16 0 after rest ≡ k → Spelled after k rest
    spelled rest e = subst (Spelled after k) (none_yet rest) (component_back 16 0 0 rest (omega arith) (omega arith) e)

  -- ---- six components

  if_good : (t : Bool) (l : Line) → (if t then l otherwise line.Bad) ≡ k → (t ≡ true) × (l ≡ k)
  if_good true l e = (refl, e)
  if_good false l e = absurd (good e)

  one_more : (more : ℕ) (before : Row) (given : List ℕ) → components (suc more) before given ≡ k → OneMore more before k given
  unfolding components
  one_more more before given e =
      let w = word_back (32 ∷ []) (component 16 0 (finite_then more before)) given e in
      let s = spelled (finite_then more before) w.rest w.goes_on in
      let two = if_good (finite_bits s.bits) (components more (pushed before s.bits) s.rest) s.goes_on in
      record {
        bits = s.bits;
        rest = s.rest;
        is = w.is ∙ ap (λ (l : List ℕ). 32 ∷ l) s.is;
        finite = (finite_told s.bits s.fits).0 two.0;
        goes_on = two.1;
      }

  all_read : (before : Row) (given : List ℕ) → components 0 before given ≡ k → (given ≡ []) × (line.State before ≡ k)
  unfolding components
  all_read before [] e = (refl, e)
  all_read before (b ∷ rest) e = absurd (good e)

  listed : (more : ℕ) (before : Row) (given : List ℕ) → components more before given ≡ k → Listed more before k given
  listed zero before given e = let end = all_read before given e in
      record { row = before; state = end.1; numbers = []; is = end.0; finite = tt; six = refl; moment = refl }
  listed (suc more) before given e =
      let o = one_more more before given e in
      let l = listed more (pushed before o.bits) o.rest o.goes_on in
      record {
        row = l.row;
        state = l.state;
        numbers = o.bits ∷ l.numbers;
        is = o.is ∙ ap (λ (ns : List ℕ). 32 ∷ (hex16 o.bits ++ ns)) l.is;
        finite = (o.finite, l.finite);
        six = l.six;
        moment = l.moment;
      }

  behind_moment : (t : ℕ) (given : List ℕ) → t < end_of_time → components 6 (blank t) given ≡ k → StateRead k (decimal_of t ++ given)
  unfolding row_text
  behind_moment t given h e =
      let l = listed 6 (blank t) given e in
      let six : six_of l.row ≡ l.numbers = l.six in
      let same : l.row.moment ≡ t = l.moment in
      record {
        row = l.row;
        state = l.state;
        line_of =
            record {
              text = ap (λ (ns : List ℕ). decimal_of t ++ ns) l.is ∙ ap₂ (λ (m : ℕ) (ns : List ℕ). decimal_of m ++ behind_spaces ns) (sym same) (sym six);
              moment = omega arith;
              components = subst AllFinite (sym six) l.finite;
            };
      }

  -- ---- a moment is its decimal digits

  moment_back : (rest : List ℕ) (t : ℕ) → t < end_of_time → moment_from t rest ≡ k → StateRead k (decimal_of t ++ rest)
  unfolding moment_from
  moment_back [] t h e = absurd (good e)
  moment_back (b ∷ rest) t h e = go (is_decimal b && ltb 0 t && is_moment (10 * t + (b - 48))) refl e (moment_back rest)
    where
      go : (x : Bool) → (is_decimal b && ltb 0 t && is_moment (10 * t + (b - 48))) ≡ x → (if x then moment_from (10 * t + (b - 48)) rest otherwise components 6 (blank t) (b ∷ rest)) ≡ k
          → ((t : ℕ) → t < end_of_time → moment_from t rest ≡ k → StateRead k (decimal_of t ++ rest)) → StateRead k (decimal_of t ++ (b ∷ rest))
      go true q e later =
          let three = halves (is_decimal b && ltb 0 t) (is_moment (10 * t + (b - 48))) q in
          let two = halves (is_decimal b) (ltb 0 t) three.0 in
          let digit = decimal_byte b two.0 in
          subst (StateRead k) (digit_on t b rest (ltb-true 0 t two.1) digit.0 digit.1) (later (10 * t + (b - 48)) (ltb-true _ _ three.1) e)
      go false q e later = behind_moment t (b ∷ rest) h e

  state_read : (given : List ℕ) → state_line given ≡ k → StateRead k given
  unfolding state_line
  state_read [] e = absurd (good e)
  state_read (b ∷ rest) e = go (is_decimal b) refl e
    where
      go : (t : Bool) → is_decimal b ≡ t → (if t then moment_from (b - 48) rest otherwise line.Bad) ≡ k → StateRead k (b ∷ rest)
      go true q e =
          let digit = decimal_byte b q in
          let high = digit.1 in
          subst (StateRead k) (first_digit b rest digit.0 high) (moment_back rest (b - 48) (omega arith) e)
      go false q e = absurd (good e)

  -- ---- the kinds

  state_back : (l : List ℕ) → state_line l ≡ k → HasKind l k
  state_back l e = let s = state_read l e in subst (HasKind l) s.state s.line_of

  header_back : (l : List ℕ) → header_line l ≡ k → HasKind l k
  unfolding header_line
  header_back l e = let w = word_back strip_word (number line.Header nothing) l e in go w.rest w.is (number_back line.Header nothing w.rest w.goes_on)
    where
      go : (rest : List ℕ) → l ≡ strip_word ++ rest → Numbered line.Header nothing k rest → HasKind l k
      go rest is (alone h t q) = subst (HasKind l) q (record { h = h; text = is ∙ ap (λ (ns : List ℕ). strip_word ++ ns) t })
      go rest is (spaced h more t q) = absurd (good q)

  arrived_back : (l : List ℕ) → arrived_line l ≡ k → HasKind l k
  unfolding arrived_line
  arrived_back l e = let w = word_back arrived_word (number line.Outcome nothing) l e in go w.rest w.is (number_back line.Outcome nothing w.rest w.goes_on)
    where
      go : (rest : List ℕ) → l ≡ arrived_word ++ rest → Numbered line.Outcome nothing k rest → HasKind l k
      go rest is (alone n t q) = subst (HasKind l) q (inl (record { steps = n; text = is ∙ ap (λ (ns : List ℕ). arrived_word ++ ns) t }))
      go rest is (spaced n more t q) = absurd (good q)

  refused_back : (l : List ℕ) → refused_line l ≡ k → HasKind l k
  unfolding refused_line
  refused_back l e =
      let w = word_back refused_word (number line.Lone (number line.Outcome nothing)) l e in
      go w.rest w.is (number_back line.Lone (number line.Outcome nothing) w.rest w.goes_on)
    where
      two : (n : ℕ) (rest : List ℕ) → l ≡ refused_word ++ (decimal_of n ++ (32 ∷ rest)) → Numbered line.Outcome nothing k rest → HasKind l k
      two n rest is (alone m t q) =
          let all : l ≡ refused_word ++ (decimal_of n ++ (32 ∷ decimal_of m)) = is ∙ ap (λ (ns : List ℕ). refused_word ++ (decimal_of n ++ (32 ∷ ns))) t in
          subst (HasKind l) q (inr (record { refusal = n; steps = m; text = all ∙ sym (two_numbers_lem n m) }))
      two n rest is (spaced m more t q) = absurd (good q)

      go : (rest : List ℕ) → l ≡ refused_word ++ rest → Numbered line.Lone (number line.Outcome nothing) k rest → HasKind l k
      go rest is (alone n t q) = subst (HasKind l) q (record { refusal = n; text = is ∙ ap (λ (ns : List ℕ). refused_word ++ ns) t })
      go rest is (spaced n more t q) = two n more (is ∙ ap (λ (ns : List ℕ). refused_word ++ ns) t) (number_back line.Outcome nothing more q)

  pub kind_back : (l : List ℕ) → kind_of l ≡ k → HasKind l k
  unfolding kind_of
  kind_back [] e = absurd (good e)
  kind_back (b ∷ rest) e = go (eqb b 83) (eqb b 65) (eqb b 82) e
    where
      go : (s a d : Bool)
          → (if s then header_line (b ∷ rest) otherwise if a then arrived_line (b ∷ rest) otherwise if d then refused_line (b ∷ rest) otherwise state_line (b ∷ rest)) ≡ k
          → HasKind (b ∷ rest) k
      go true a d e = header_back (b ∷ rest) e
      go false true d e = arrived_back (b ∷ rest) e
      go false false true e = refused_back (b ∷ rest) e
      go false false false e = state_back (b ∷ rest) e
