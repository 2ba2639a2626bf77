-- How long the parts of a line can be. Assumes nothing.
use Prim.Native.Nat.{ℕ, ◌<◌, ◌≤◌}
use mathlib.Core.List.{◌++◌}
use native.Mathlib.Omega.{arith}
use lib.Ieee.{Float}
use lib.ListN.{length, length-append}
use Rattle.state.specs.State.{position, velocity}
use Rattle.state.specs.declared.Vector.{Vector}
use Rattle.state.specs.declared.State.{State}
use Rattle.text_write.specs.Numerals.{decimal_of}
use Rattle.text_write.proofs.Decimal.{decimal_fits}
use Rattle.text_write.proofs.Digits.{float_fits}
use Rattle.listing_words.specs.Words.{line_feed, strip_word}
use Rattle.listing_write.specs.Lines.{spaced, vector_text, header_line, state_line}
use Rattle.listing_write.specs.Course.{longest_line}

pub spaced_fits : (x : Float) → length (spaced x) ≤ 17
spaced_fits x = omega (arith, float_fits x)

pub vector_fits : (v : Vector) → length (vector_text v) ≤ 51
unfolding vector_text
vector_fits v =
    rw (length-append (spaced v.x ++ spaced v.y) (spaced v.z), length-append (spaced v.x) (spaced v.y))
    (omega (arith, spaced_fits v.x, spaced_fits v.y, spaced_fits v.z))

pub line_fits : (s : State) → s.moment < 0x1_0000_0000_0000_0000 → length (state_line s) ≤ longest_line
unfolding state_line
line_fits s h =
    let m = decimal_of s.moment in let p = vector_text (position s) in let v = vector_text (velocity s) in
    rw (length-append (m ++ p ++ v) line_feed, length-append (m ++ p) v, length-append m p)
    (omega (arith, decimal_fits s.moment h, vector_fits (position s), vector_fits (velocity s)))

pub header_fits : (h : ℕ) → h < 0x1_0000_0000_0000_0000 → length (header_line h) ≤ longest_line
unfolding header_line
header_fits h small =
    rw (length-append (strip_word ++ decimal_of h) line_feed, length-append strip_word (decimal_of h)) (omega (arith, decimal_fits h small))
