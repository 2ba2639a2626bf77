-- Document 02, R-12, as a question: does the second book hold every entry of the first? If not, the answer is the first entry of the first
-- book that the second does not hold.
use Rattle.base.specs.declared.Refusal.{Refusal}
use Rattle.std.specs.Prelude.{ℕ, zero, suc, ◌+◌, ◌*◌, Bool, false, not, ◌&&◌, ◌||◌, List, Option, Result, Ok, Err}
use Rattle.base.specs.Choice.{if◌then◌otherwise◌, ◌=?◌}
use Rattle.base_bytes.specs.Bytes.{u64_at}
use Rattle.book.specs.Contents.{entry_count, body_of, size_of, offset_of, start_of, span_of}
use Rattle.book.specs.Passes.{all_below, passes}
use Rattle.book.specs.Lookup.{first_below}

-- whether some number below n meets the test
abbrev pub some_below : ℕ → (ℕ → Bool) → Bool
some_below zero test = false
some_below (suc n) test = some_below n test || test n

-- whether entry j of c is entry i of b: body, count, start, span, and the bits of each coefficient
abbrev pub same_coefficients : List ℕ → List ℕ → ℕ → ℕ → Bool
same_coefficients b c i j = all_below (3 * size_of b i) (λ k. u64_at c (offset_of c j + 8 * k) =? u64_at b (offset_of b i + 8 * k))

abbrev pub is_copy : List ℕ → List ℕ → ℕ → ℕ → Bool
is_copy b c i j =
    (body_of c j =? body_of b i)
    && (size_of c j =? size_of b i)
    && (start_of c j =? start_of b i)
    && (span_of c j =? span_of b i)
    && same_coefficients b c i j

-- whether c holds entry i of b
abbrev pub holds_entry : List ℕ → List ℕ → ℕ → Bool
holds_entry b c i = some_below (entry_count c) (is_copy b c i)

-- the first entry of b, from the front, that c does not hold
unfoldable pub first_missing : List ℕ → List ℕ → Option ℕ
first_missing b c = first_below (entry_count b) (λ i. not (holds_entry b c i))

-- 1: a book that does not pass, the first or the second
unfoldable pub holds_answer : List ℕ → List ℕ → Result (Option ℕ) Refusal
holds_answer b c = if passes b && passes c then Ok (first_missing b c) otherwise Err Refusal.Book
