-- A line of more than 1,000 bytes is no call of `ask`. So the first 1,001 bytes of a line, which the program keeps, get the answer of the whole line. Assumes nothing.
use Prim.Native.Nat.{ℕ, suc, ◌+◌, ◌*◌, ◌<◌, ◌≤◌}
use mathlib.Core.Bool.{Bool, true, false, ◌&&◌}
use mathlib.Core.List.{List, [], ◌∷◌}
use mathlib.Core.Path.{◌≡◌, refl, sym, ap, ◌∙◌}
use native.Mathlib.Omega.{arith}
use borrow.Author.Tests.{leb-true, leb-false, eqb-true}
use lib.Dec.{leb, ltb, eqb}
use lib.ListN.{length, take, drop, get_or}
use lib.Seq.{length-take-le, take_all}
use Rattle.base.specs.Choice.{if◌then◌otherwise◌, ◌<?◌, ◌≤?◌, ◌=?◌}
use Rattle.base.proofs.Bools.{left, right}
use Rattle.std.specs.Prelude.{Option, Some, None}
use Rattle.text_read.specs.declared.Field.{Field}
use Rattle.text_read.specs.Fields.{until_space, field, all_digits, value_after, sized, read_number, read_decimal, read_hex16}
use Rattle.line_form.specs.Call.{below32, cap, above_zero, below_zero, read_signed, starts_with, read_printed, number_at, field_at, Call, These, Unreadable, ahead, and_then, fields_from, call_of}
use Rattle.line_types.specs.declared.Answer.TheVariants as answer
use Rattle.line_answers.specs.Calls.{Question, answer_of, questions, answer_to}
use Rattle.line_laws.specs.Long.{longest, widest, most, all_short}

-- ---- a field ends before a place

abbrev Before : ℕ → Option Field → Type 0
Before end None = Unit {0}
Before end (Some f) = f.next ≤ end

later : (a b : ℕ) (f : Option Field) → a ≤ b → Before a f → Before b f
later a b None h w = tt
later a b (Some f) h w = omega arith

if_else : (end : ℕ) (t : Bool) (f g : Option Field) → Before end f → Before end g → Before end (if t then f otherwise g)
if_else end true f g w v = w
if_else end false f g w v = v

sized_before : (least count_most count n at : ℕ) → Before (at + count_most) (sized least count_most count n (at + count))
sized_before least count_most count n at = go (leb least count) (leb count count_most) (leb-true count count_most)
  where
    go : (t u : Bool) → (u ≡ true → count ≤ count_most) → Before (at + count_most) (if t && u then field n (at + count) otherwise None)
    go true true h = let k : count ≤ count_most = h refl in omega arith
    go true false h = tt
    go false u h = tt

number_before : (base least count_most : ℕ) (s : List ℕ) (at : ℕ) → Before (at + count_most) (read_number base least count_most s at)
unfolding read_number
number_before base least count_most s at =
    let f = until_space (drop at s) in
    if_else (at + count_most) (all_digits base f && (value_after base 0 f <? 0x1_0000_0000_0000_0000)) (sized least count_most (length f) (value_after base 0 f) (at + length f)) None
    (sized_before least count_most (length f) (value_after base 0 f) at)
    tt

below32_before : (end : ℕ) (f : Option Field) → Before end f → Before end (below32 f)
below32_before end None w = tt
below32_before end (Some f) w = if_else end (f.value <? 0x1_0000_0000) (Some f) None w tt

above_before : (end : ℕ) (f : Option Field) → Before end f → Before end (above_zero f)
above_before end None w = tt
above_before end (Some f) w = w

below_before : (end : ℕ) (f : Option Field) → Before end f → Before end (below_zero f)
below_before end None w = tt
below_before end (Some f) w = w

decimal_before : (line : List ℕ) (at : ℕ) → Before (at + 20) (read_decimal line at)
decimal_before line at = number_before 10 1 20 line at

hex_before : (line : List ℕ) (at : ℕ) → Before (at + 21) (read_hex16 line at)
hex_before line at = later (at + 16) (at + 21) (read_hex16 line at) (omega arith) (number_before 16 16 16 line at)

signed_before : (line : List ℕ) (at : ℕ) → Before (at + 21) (read_signed line at)
unfolding read_signed
signed_before line at =
    if_else (at + 21) (at <? length line) (if get_or line at 0 =? 45 then below_zero (read_decimal line (at + 1)) otherwise above_zero (read_decimal line at)) None
    (if_else (at + 21) (get_or line at 0 =? 45) (below_zero (read_decimal line (at + 1))) (above_zero (read_decimal line at))
    (below_before (at + 21) (read_decimal line (at + 1)) (later (at + 1 + 20) (at + 21) (read_decimal line (at + 1)) (omega arith) (decimal_before line (at + 1))))
    (above_before (at + 21) (read_decimal line at) (later (at + 20) (at + 21) (read_decimal line at) (omega arith) (decimal_before line at))))
    tt

printed_before : (line : List ℕ) (at : ℕ) → Before (at + 21) (read_printed line at)
unfolding read_printed
printed_before line at =
    if_else (at + 21) ((at ≤? length line) && starts_with (drop at line) (110 ∷ 97 ∷ 110 ∷ [])) (field 0x7ff8_0000_0000_0000 (at + 3)) (read_hex16 line at) (omega arith) (hex_before line at)

at_before : (kind : ℕ) (line : List ℕ) (at : ℕ) → Before (at + 21) (number_at kind line at)
at_before kind line at =
    let d = later (at + 20) (at + 21) (read_decimal line at) (omega arith) (decimal_before line at) in
    if_else (at + 21) (kind =? 70) (read_hex16 line at) _ (hex_before line at)
    (if_else (at + 21) (kind =? 83) (below32 (read_decimal line at)) _ (below32_before (at + 21) (read_decimal line at) d)
    (if_else (at + 21) (kind =? 78) (read_signed line at) _ (signed_before line at)
    (if_else (at + 21) (kind =? 80) (read_printed line at) (read_decimal line at) (printed_before line at) d)))

field_before : (kind : ℕ) (line : List ℕ) (at : ℕ) → Before (at + widest) (field_at kind line at)
unfolding field_at
field_before kind line at =
    if_else (at + widest) (at <? length line) (if get_or line at 0 =? 32 then number_at kind line (at + 1) otherwise None) None
    (if_else (at + widest) (get_or line at 0 =? 32) (number_at kind line (at + 1)) None
    (later (at + 1 + 21) (at + widest) (number_at kind line (at + 1)) (omega arith) (at_before kind line (at + 1)))
    tt)
    tt

-- ---- a call is no longer than its name and its fields

abbrev NoLonger : ℕ → ℕ → Call → Type 0
NoLonger size end (These v) = size ≤ end
NoLonger size end Unreadable = Unit {0}

fits_later : (size a b : ℕ) (c : Call) → a ≤ b → NoLonger size a c → NoLonger size b c
fits_later size a b (These v) h w = omega arith
fits_later size a b Unreadable h w = tt

ahead_fits : (size end n : ℕ) (c : Call) → NoLonger size end c → NoLonger size end (ahead n c)
ahead_fits size end n (These v) w = w
ahead_fits size end n Unreadable w = tt

then_fits : (size at count : ℕ) (f : Option Field) (rest : ℕ → Call) → Before (at + widest) f → ((next : ℕ) → NoLonger size (next + widest * count) (rest next))
    → NoLonger size (at + widest * suc count) (and_then f rest)
then_fits size at count None rest w all = tt
then_fits size at count (Some f) rest w all =
    ahead_fits size (at + widest * suc count) f.value (rest f.next) (fits_later size (f.next + widest * count) (at + widest * suc count) (rest f.next) (omega arith) (all f.next))

fields_fit : (line kinds : List ℕ) (at : ℕ) → NoLonger (length line) (at + widest * length kinds) (fields_from line kinds at)
unfolding fields_from
fields_fit line [] at = go (eqb at (length line)) (eqb-true at (length line))
  where
    go : (t : Bool) → (t ≡ true → at ≡ length line) → NoLonger (length line) (at + 0) (if t then These [] otherwise Unreadable)
    go true h = let e : at ≡ length line = h refl in omega arith
    go false h = tt
fields_fit line (kind ∷ kinds) at = then_fits (length line) at (length kinds) (field_at kind line at) (fields_from line kinds) (field_before kind line at) (λ next. fields_fit line kinds next)

call_fits : (line name kinds : List ℕ) → NoLonger (length line) (length name + widest * length kinds) (call_of line name kinds)
unfolding call_of
call_fits line name kinds = go (starts_with line name)
  where
    go : (t : Bool) → NoLonger (length line) (length name + widest * length kinds) (if t then fields_from line kinds (length name) otherwise Unreadable)
    go true = fields_fit line kinds (length name)
    go false = tt

pub no_call_so_long : (line name kinds : List ℕ) → length name + widest * length kinds < length line → call_of line name kinds ≡ Unreadable
no_call_so_long line name kinds h = go (call_of line name kinds) (call_fits line name kinds)
  where
    go : (c : Call) → NoLonger (length line) (length name + widest * length kinds) c → c ≡ Unreadable
    go (These v) w = absurd (omega arith)
    go Unreadable w = refl

-- what answers every long line alike answers the first 1,001 bytes of a line as the line
pub kept : {A : Type 0} (f : List ℕ → A) (x : A) → ((line : List ℕ) → longest < length line → f line ≡ x) → (line : List ℕ) → f (take (longest + 1) line) ≡ f line
kept f x long line = go (leb (length line) (longest + 1)) (leb-true (length line) (longest + 1)) (leb-false (length line) (longest + 1))
  where
    go : (t : Bool) → (t ≡ true → length line ≤ longest + 1) → (t ≡ false → longest + 1 < length line) → f (take (longest + 1) line) ≡ f line
    go true h k = ap f (take_all (longest + 1) line (h refl))
    go false h k =
        let l : longest + 1 < length line = k refl in
        let n : length (take (longest + 1) line) ≡ longest + 1 = length-take-le (longest + 1) line (omega arith) in
        long (take (longest + 1) line) (omega arith) ∙ sym (long line (omega arith))

-- ---- the calls of `ask`

none_so_long : (qs : List Question) (line : List ℕ) → all_short qs ≡ true → longest < length line → answer_of qs line ≡ answer.Unreadable
unfolding answer_of
none_so_long [] line e h = refl
none_so_long (q ∷ qs) line e h =
    let k : most q ≤ longest = leb-true (most q) longest (left (leb (most q) longest) (all_short qs) e) in
    rw (no_call_so_long line q.name q.kinds (omega arith)) (none_so_long qs line (right (leb (most q) longest) (all_short qs) e) h)

pub long_unreadable : (book line : List ℕ) → longest < length line → answer_to book line ≡ answer.Unreadable
unfolding questions
long_unreadable book line h = none_so_long (questions book) line refl h

-- what the program keeps of a line gets the answer of the line
pub kept_answer : (book line : List ℕ) → answer_to book (take (longest + 1) line) ≡ answer_to book line
kept_answer book line = kept (answer_to book) answer.Unreadable (long_unreadable book) line
