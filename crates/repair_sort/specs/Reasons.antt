-- Document 02, R-10: which entries of a damaged book are looked at, and the reasons for dropping one before the rest are put in order.
use Rattle.std.specs.Prelude.{ℕ, zero, suc, ◌+◌, ◌-◌, ◌/◌, min, Bool, List, length, set}
use Rattle.base.specs.Choice.{if◌then◌otherwise◌, ◌≤?◌, ◌=?◌}
use Rattle.book.specs.Contents.{entry_count, offset_of, block_length}
use Rattle.book.specs.Passes.{fields_allowed, coefficients_finite}
use Rattle.repair_sort.specs.Fates.{bad_fields, block_outside, not_finite, goes_on}

-- "It looks at as many stated entries as the input has room for": 24 bytes for each entry after the header of 8
abbrev pub looked_at : List ℕ → ℕ
looked_at b = min (entry_count b) ((length b - 8) / 24)

-- a block must lie inside the input; it may begin in the contents or in another block
abbrev pub block_inside : List ℕ → ℕ → Bool
block_inside b i = offset_of b i + block_length b i ≤? length b

-- "An entry is dropped, first reason found, for: fields not allowed; block outside the input; a coefficient not finite"
unfoldable pub first_reason : List ℕ → ℕ → ℕ
first_reason b i =
    if fields_allowed b i then
    (if block_inside b i then
    (if coefficients_finite b i then goes_on otherwise not_finite)
    otherwise block_outside)
    otherwise bad_fields

-- entry i with this reason, or none
abbrev pub noted : ℕ → ℕ → List ℕ → List ℕ
noted why i fates = if why =? goes_on then fates otherwise set fates i why

-- the fates of the first n entries by these reasons; `fates` has a place for each entry
abbrev pub reasons : List ℕ → ℕ → List ℕ → List ℕ
reasons b zero fates = fates
reasons b (suc n) fates = noted (first_reason b n) n (reasons b n fates)
