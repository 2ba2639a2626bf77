-- Items written one after the other, and the line feed behind the last. Assumes nothing.
use Prim.Native.Nat.{ℕ, ◌+◌, ◌-◌, ◌<◌, ◌≤◌}
use mathlib.Core.List.{List, [], ◌∷◌, ◌++◌, map, append_assoc}
use mathlib.Core.Path.{◌≡◌, refl, sym, ap, ◌∙◌}
use native.Mathlib.Numerals.{add-one}
use native.Mathlib.Omega.{arith}
use lib.ListN.{length, take, get_or, set, length-append}
use lib.Seq.{take-suc, take-set-lt, set_at, length-take-le, drop-set-lt}
use Rattle.text_write.specs.Written.{Wrote}
use Rattle.text_write.proofs.Writing.{nothing, both, byte}
use Rattle.line_form.specs.Spelled.{Item, word, item_text, spaced, line_text, Puts}

pub spaced_append : (is js : List Item) → spaced (is ++ js) ≡ spaced is ++ spaced js
unfolding spaced
spaced_append [] js = refl
spaced_append (i ∷ is) js = ap (λ (t : List ℕ). item_text i ++ (32 ∷ t)) (spaced_append is js) ∙ sym (append_assoc (item_text i) (32 ∷ spaced is) (spaced js))

-- rows one after the other
pub then : {a b c : List ℕ} {at m r : ℕ} (is js : List Item) → Wrote a at (spaced is) b m → Wrote b m (spaced js) c r → Wrote a at (spaced (is ++ js)) c r
then is js w v = rw (spaced_append is js) (both w v)

-- the text of an item and the space after it
pub one_item : {a b : List ℕ} {at m : ℕ} (i : Item) → Wrote a at (item_text i) b m → m < length b → Wrote a at (spaced (i ∷ [])) (set b m 32) (m + 1)
unfolding spaced
one_item {b = b} {m = m} i w h = both w (byte b m 32 h)

map_append : {A : Type 0} (f : A → Item) (xs ys : List A) → map f (xs ++ ys) ≡ map f xs ++ map f ys
map_append f [] ys = refl
map_append f (x ∷ xs) ys = ap (λ (l : List Item). f x ∷ l) (map_append f xs ys)

-- one more of a row
pub row_on : {A : Type 0} {a b c : List ℕ} {at m r : ℕ} (f : A → Item) (row : List A) (i : ℕ) (d : A) → i < length row
    → Wrote a at (spaced (map f (take i row))) b m → Wrote b m (spaced (f (get_or row i d) ∷ [])) c r → Wrote a at (spaced (map f (take (i + 1) row))) c r
row_on f row i d h w v = rw (add-one i, take-suc row i d h, map_append f (take i row) (get_or row i d ∷ [])) (then (map f (take i row)) (f (get_or row i d) ∷ []) w v)

-- ---- the line feed

abbrev front : Item → List Item → List ℕ
front i [] = item_text i
front i (j ∷ is) = item_text i ++ (32 ∷ front j is)

spaced_front : (i : Item) (is : List Item) → spaced (i ∷ is) ≡ front i is ++ (32 ∷ [])
unfolding spaced
spaced_front i [] = refl
spaced_front i (j ∷ is) = ap (λ (t : List ℕ). item_text i ++ (32 ∷ t)) (spaced_front j is) ∙ sym (append_assoc (item_text i) (32 ∷ front j is) (32 ∷ []))

line_front : (i : Item) (is : List Item) → line_text (i ∷ is) ≡ front i is ++ (10 ∷ [])
unfolding line_text
line_front i [] = refl
line_front i (j ∷ is) = ap (λ (t : List ℕ). item_text i ++ (32 ∷ t)) (line_front j is) ∙ sym (append_assoc (item_text i) (32 ∷ front j is) (10 ∷ []))

pub feed_last : {a b : List ℕ} {at r : ℕ} (i : Item) (is : List Item) → r ≤ length b → Wrote a at (spaced (i ∷ is)) b r → Wrote a at (line_text (i ∷ is)) (set b (r - 1) 10) r
feed_last {a} {b} {at} {r} i is h w =
    let f = front i is in
    let s : spaced (i ∷ is) ≡ f ++ (32 ∷ []) = spaced_front i is in
    let e : length (spaced (i ∷ is)) ≡ length f + 1 = ap length s ∙ length-append f (32 ∷ []) in
    let n : length (line_text (i ∷ is)) ≡ length f + 1 = ap length (line_front i is) ∙ length-append f (10 ∷ []) in
    let q : length (take at a) + length (spaced (i ∷ is)) ≡ r = sym (length-append (take at a) (spaced (i ∷ is))) ∙ sym (ap length w.bytes) ∙ length-take-le r b h in
    let k : length (take at a ++ f) ≡ r - 1 = omega (arith, length-append (take at a) f, q, w.next, e) in
    let t : take r b ≡ (take at a ++ f) ++ (32 ∷ []) = w.bytes ∙ ap (λ (l : List ℕ). take at a ++ l) s ∙ sym (append_assoc (take at a) f (32 ∷ [])) in
    record {
      next = omega (arith, w.next, e, n);
      bytes =
          take-set-lt r b (r - 1) 10 (omega (arith, w.next, e))
          ∙ ap (λ (l : List ℕ). set l (r - 1) 10) t
          ∙ set_at (take at a ++ f) 32 [] 10 (r - 1) k
          ∙ append_assoc (take at a) f (10 ∷ [])
          ∙ ap (λ (l : List ℕ). take at a ++ l) (sym (line_front i is));
      rest = drop-set-lt r b (r - 1) 10 (omega (arith, w.next, e)) ∙ w.rest;
    }

pub no_items : (out : List ℕ) (at : ℕ) → Wrote out at (spaced []) out at
unfolding spaced
no_items out at = nothing out at

-- a word followed by its space
pub as_word : {a b : List ℕ} {at m : ℕ} (w : List ℕ) → Wrote a at (w ++ (32 ∷ [])) b m → Wrote a at (spaced (word w ∷ [])) b m
unfolding spaced
as_word w h = h

-- ---- the same with their bounds: an answer has at most 512 bytes

pub widened : {a b t : List ℕ} {at least most r : ℕ} → Puts a at t b least most r → 1 ≤ least → most ≤ 512 → Puts a at t b 1 512 r
widened p h k =
    let s = p.room.some in
    let f = p.room.fits in
    record { wrote = p.wrote; room = record { some = omega arith; fits = omega arith } }

pub worded : {a b : List ℕ} {at r : ℕ} (w : List ℕ) → length w < 512 → Wrote a at (w ++ (32 ∷ [])) b r → Puts a at (spaced (word w ∷ [])) b 1 512 r
worded w h v =
    let n = v.next in
    let l = length-append w (32 ∷ []) in
    record { wrote = as_word w v; room = record { some = omega arith; fits = omega arith } }

pub then_puts : {a b c : List ℕ} {at l m x k n r : ℕ} (is js : List Item) → Puts a at (spaced is) b l m x → Puts b x (spaced js) c k n r → Puts a at (spaced (is ++ js)) c (l + k) (m + n) r
then_puts is js p q =
    let s = p.room.some in
    let f = p.room.fits in
    let t = q.room.some in
    let g = q.room.fits in
    record { wrote = then is js p.wrote q.wrote; room = record { some = omega arith; fits = omega arith } }

pub after_word : {a b c : List ℕ} {at x k n r : ℕ} (w : List ℕ) (is : List Item) → length w + n < 512 → Wrote a at (w ++ (32 ∷ [])) b x → Puts b x (spaced is) c k n r
    → Puts a at (spaced (word w ∷ is)) c 1 512 r
after_word w is h v q =
    let e = v.next in
    let l = length-append w (32 ∷ []) in
    let t = q.room.some in
    let g = q.room.fits in
    record { wrote = then (word w ∷ []) is (as_word w v) q.wrote; room = record { some = omega arith; fits = omega arith } }

pub lined : {a b : List ℕ} {at r : ℕ} (i : Item) (is : List Item) → r ≤ length b → Puts a at (spaced (i ∷ is)) b 1 512 r → Puts a at (line_text (i ∷ is)) (set b (r - 1) 10) 1 512 r
lined i is h p = record { wrote = feed_last i is h p.wrote; room = p.room }
