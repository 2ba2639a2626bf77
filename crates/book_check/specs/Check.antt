-- What one turn of the check tests of an entry. The laws in proofs/Checked.antt prove that this gives document 01's conditions.
use Rattle.std.specs.Prelude.{ℕ, ◌+◌, ◌*◌, ◌%◌, Bool, true, ◌&&◌, List, length}
use Rattle.std.specs.Float.Ieee.Scale.{finite}
use Rattle.base.specs.Choice.{if◌then◌otherwise◌, ◌<?◌, ◌≤?◌, ◌=?◌}
use Rattle.base_bytes.specs.Bytes.{u64_at}
use Rattle.book_check.specs.Contents.{offset_of, float_of, block_length}
use Rattle.book_check.specs.Passes.{all_below, fields_allowed, ascends, apart, coefficients_finite}

-- the bits of a float without its sign, below those of some size
abbrev pub bits_below : ℕ → ℕ → Bool
bits_below limit bits = bits % 0x8000_0000_0000_0000 <? limit

abbrev pub floats_below : ℕ → List ℕ → ℕ → ℕ → Bool
floats_below limit b at n = all_below n (λ k. bits_below limit (u64_at b (at + 8 * k)))

abbrev pub floats_finite : List ℕ → ℕ → ℕ → Bool
floats_finite b offset n = all_below n (λ k. finite (float_of b offset k))

-- entry i alone; its block must begin at `place`
abbrev pub entry_holds : List ℕ → ℕ → ℕ → Bool
entry_holds b i place =
    fields_allowed b i && (offset_of b i =? place) && (place + block_length b i ≤? length b) && coefficients_finite b i

-- entry i before entry j
abbrev pub in_order : List ℕ → ℕ → ℕ → Bool
in_order b i j = ascends b i j && apart b i j

abbrev pub next_in_order : List ℕ → ℕ → ℕ → Bool
next_in_order b i count = if i + 1 <? count then in_order b i (i + 1) otherwise true
