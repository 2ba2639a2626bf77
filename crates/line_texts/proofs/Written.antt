-- Items written, with their bounds, and the line feed behind the last of them. Assumes nothing.
use Prim.Native.Nat.{ℕ, ◌+◌, ◌-◌, ◌≤◌}
use mathlib.Core.List.{List, [], ◌∷◌, ◌++◌}
use native.Mathlib.Omega.{arith}
use lib.ListN.{length, set, length-append}
use Rattle.text_write.specs.Written.{Wrote}
use Rattle.line_form.specs.Spelled.{Item, word, spaced, line_text, Puts}
use Rattle.line_form.proofs.Spelling.{as_word, lined}

pub word_in : {a b : List ℕ} {at r : ℕ} (w : List ℕ) (most : ℕ) → length w + 1 ≤ most → Wrote a at (w ++ (32 ∷ [])) b r → Puts a at (spaced (word w ∷ [])) b 1 most r
word_in w most h v =
    let n = v.next in
    let l = length-append w (32 ∷ []) in
    record { wrote = as_word w v; room = record { some = omega arith; fits = omega arith } }

-- what has a byte at least has an item
pub ended : {a b : List ℕ} {at r : ℕ} (is : List Item) → r ≤ length b → Puts a at (spaced is) b 1 512 r → Puts a at (line_text is) (set b (r - 1) 10) 1 512 r
unfolding spaced
ended [] h p =
    let n = p.wrote.next in
    let s = p.room.some in
    absurd (omega arith)
ended (i ∷ is) h p = lined i is h p
