-- Document 01, "The ephemeris book": the entry that covers a moment for a body.
use Rattle.std.specs.Prelude.{ℕ, zero, suc, Bool, ◌&&◌, List, Option, Some, None}
use Rattle.base.specs.Choice.{if◌then◌otherwise◌, ◌<?◌, ◌≤?◌, ◌=?◌}
use Rattle.book_check.specs.Contents.{entry_count, body_of, start_of, end_of}

-- "An entry covers t when s <= t < s + L"
abbrev pub covers : List ℕ → ℕ → ℕ → Bool
covers b i t = (start_of b i ≤? t) && (t <? end_of b i)

-- entry i is the body's and covers t
abbrev pub serves : List ℕ → ℕ → ℕ → ℕ → Bool
serves b body t i = (body_of b i =? body) && covers b i t

abbrev pub or_else : Option ℕ → Option ℕ → Option ℕ
or_else (Some i) other = Some i
or_else None other = other

-- the first number from the front, of those below n, that meets the test
abbrev pub first_below : ℕ → (ℕ → Bool) → Option ℕ
first_below zero test = None
first_below (suc n) test = or_else (first_below n test) (if test n then Some n otherwise None)

unfoldable pub lookup : List ℕ → ℕ → ℕ → Option ℕ
lookup b body t = first_below (entry_count b) (serves b body t)
