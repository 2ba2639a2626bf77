-- Document 01, "The ephemeris book": "A book passes when", condition by condition.
use Rattle.std.specs.Prelude.{ℕ, zero, suc, ◌+◌, ◌*◌, Bool, true, not, ◌&&◌, ◌||◌, List, length}
use Rattle.std.specs.Float.Ieee.Scale.{finite}
use Rattle.base.specs.Choice.{◌<?◌, ◌≤?◌, ◌=?◌}
use Rattle.base.specs.Limits.{end_of_time}
use Rattle.book_check.specs.Contents.{stated_total, entry_count, entry_at, body_of, size_of, offset_of, start_of, span_of, end_of, coefficient, block_length}

-- whether every number below n meets the test, and every two numbers i < j below n
abbrev pub all_below : ℕ → (ℕ → Bool) → Bool
all_below zero test = true
all_below (suc n) test = all_below n test && test n

abbrev pub pairs_below : ℕ → (ℕ → ℕ → Bool) → Bool
pairs_below n test = all_below n (λ j. all_below j (λ i. test i j))

-- "its length is the stated total"
abbrev pub total_stated : List ℕ → Bool
total_stated b = length b =? stated_total b

-- "and within the limit": "at most 61,440 bytes"
abbrev pub longest_book : ℕ
longest_book = 61_440

abbrev pub within_limit : List ℕ → Bool
within_limit b = length b ≤? longest_book

-- "body is 2 to 6"
abbrev pub body_allowed : List ℕ → ℕ → Bool
body_allowed b i = (2 ≤? body_of b i) && (body_of b i ≤? 6)

-- "n is 2 to 16"
abbrev pub size_allowed : List ℕ → ℕ → Bool
size_allowed b i = (2 ≤? size_of b i) && (size_of b i ≤? 16)

-- "L is at least 1 and s + L at most 3,155,760,000,000"
abbrev pub times_allowed : List ℕ → ℕ → Bool
times_allowed b i = (1 ≤? span_of b i) && (end_of b i ≤? end_of_time)

abbrev pub fields_allowed : List ℕ → ℕ → Bool
fields_allowed b i = body_allowed b i && size_allowed b i && times_allowed b i

-- "entries ascend by body, then start"
abbrev pub ascends : List ℕ → ℕ → ℕ → Bool
ascends b i j = (body_of b i <? body_of b j) || ((body_of b i =? body_of b j) && (start_of b i <? start_of b j))

-- "entries of one body do not overlap": each would start before the other's end
abbrev pub overlaps : List ℕ → ℕ → ℕ → Bool
overlaps b i j = (body_of b i =? body_of b j) && (start_of b i <? end_of b j) && (start_of b j <? end_of b i)

abbrev pub apart : List ℕ → ℕ → ℕ → Bool
apart b i j = not (overlaps b i j)

-- "blocks follow the contents in entry order with no gap": where block i must begin; at the entry count, where the last one ends
abbrev pub block_place : List ℕ → ℕ → ℕ
block_place b zero = entry_at (entry_count b)
block_place b (suc i) = block_place b i + block_length b i

abbrev pub block_follows : List ℕ → ℕ → Bool
block_follows b i = offset_of b i =? block_place b i

-- "and nothing after": so header and contents lie inside the book too
abbrev pub nothing_after : List ℕ → Bool
nothing_after b = block_place b (entry_count b) =? length b

-- "every coefficient is finite"
abbrev pub coefficients_finite : List ℕ → ℕ → Bool
coefficients_finite b i = all_below (3 * size_of b i) (λ k. finite (coefficient b i k))

unfoldable pub passes : List ℕ → Bool
passes b =
    total_stated b
    && within_limit b
    && all_below (entry_count b) (fields_allowed b)
    && pairs_below (entry_count b) (ascends b)
    && pairs_below (entry_count b) (apart b)
    && all_below (entry_count b) (block_follows b)
    && nothing_after b
    && all_below (entry_count b) (coefficients_finite b)
