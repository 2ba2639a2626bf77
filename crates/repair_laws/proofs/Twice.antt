-- The laws of a repaired book, over the whole call. Assumes nothing.
use Prim.Native.Nat.{ℕ, ◌+◌, ◌<◌, ◌≤◌}
use mathlib.Core.Bool.{true, false}
use mathlib.Core.List.{List, ◌++◌}
use mathlib.Core.Path.{◌≡◌, ap, ◌∙◌}
use native.Mathlib.Omega.{arith}
use lib.ListN.{length, drop, get_or}
use borrow.Author.Tests.{le-leb}
use Rattle.std.specs.Prelude.{Ok}
use Rattle.book.specs.Contents.{entry_count}
use Rattle.book.specs.Passes.{passes}
use Rattle.book.proofs.Passing.{Passing, passing, contents_inside}
use Rattle.repair_write.specs.Anew.{book_anew}
use Rattle.repair_book.specs.Report.{report_of}
use Rattle.repair_book.specs.declared.Report.{Report}
use Rattle.repair_book.specs.Repaired.{repair_checks, room_of, kept_of, repair_answer, output_after, fates_after}
use Rattle.repair_book.proofs.Refusals.{not_refused}
use Rattle.book_holds.specs.Holds.{Copied}
use Rattle.repair_laws.specs.Laws.{Bytes}
use Rattle.repair_laws.proofs.Written.{kept_chained, written_passes, written_copied, book_length_lem}
use Rattle.repair_laws.proofs.Bytes.{bytes_anew}
use Rattle.repair_laws.proofs.Whole.{up_to_length, book_all, same_book}
use Rattle.repair_laws.proofs.Unchanged.{all_looked, kept_whole, repaired_whole, nothing_changed, outcome_of}

-- the book that a call writes
abbrev pub written : List ℕ → ℕ → List ℕ
written b output = book_anew b (kept_of b (room_of output))

module _ (b out : List ℕ) (taken : repair_checks (length b) (length out) ≡ Ok tt) where
  pub output_is : output_after b out ≡ written b (length out) ++ drop (length (written b (length out))) out
  unfolding output_after
  output_is = rw (taken, zero_and (length (written b (length out))))
    where
      zero_and : (n : ℕ) → 0 + n ≡ n
      zero_and n = omega arith

-- "writes one that passes"
pub passes_written : (b : List ℕ) (output : ℕ) → repair_checks (length b) output ≡ Ok tt → passes (written b output) ≡ true
passes_written b output taken = let r = not_refused (length b) output taken in written_passes b (room_of output) r.0 (omega arith) (omega arith)

-- every kept entry's fields and coefficients are the input's bits
pub copied_written : (b : List ℕ) (output : ℕ) → repair_checks (length b) output ≡ Ok tt → (k : ℕ) → k < length (kept_of b (room_of output))
    → Copied b (written b output) (get_or (kept_of b (room_of output)) k 0) k
copied_written b output taken = let r = not_refused (length b) output taken in written_copied b (room_of output) r.0 (omega arith) (omega arith)

-- the written book is not longer than the output
pub fits_written : (b : List ℕ) (output : ℕ) → repair_checks (length b) output ≡ Ok tt → length (written b output) ≤ room_of output
fits_written b output taken =
    let r = not_refused (length b) output taken in
    let c = kept_chained b (room_of output) r.0 (omega arith) in
    let f = c.fits in
    omega (arith, book_length_lem b (kept_of b (room_of output)) c.sound (omega arith))

abbrev pub no_change : List ℕ → Report
no_change b =
    record { looked = entry_count b; kept = entry_count b; written = length b; changed = record { total = false; count = false; order = false; offsets = false } }

-- "A book that passes comes out byte for byte where the output is at least as long, with a report of no change"
pub record Unchanged (b : List ℕ) (out fates : List ℕ) : Type 0 where
  pub bytes : output_after b out ≡ b ++ drop (length b) out
  pub report : repair_answer b (length out) ≡ Ok (no_change b)
  pub numbers : (k : ℕ) → k < entry_count b → get_or (fates_after b (length out) fates) k 0 ≡ k

no_refusal : (input output : ℕ) → 8 ≤ input → input ≤ 61_440 → 8 ≤ output → repair_checks input output ≡ Ok tt
no_refusal input output h l o = rw (le-leb 8 input h, le-leb 8 output o, le-leb input 61_440 l)

module _ (b out fates : List ℕ) (none : repair_checks (length b) (length out) ≡ Ok tt) (p : Passing b) (enough : length b ≤ room_of (length out)) where
  no_change_lem : repair_answer b (length out) ≡ Ok (no_change b)
  unfolding repair_answer report_of
  no_change_lem =
      rw (
        none,
        kept_whole b p (room_of (length out)) enough,
        nothing_changed b p,
        book_all b p,
        all_looked b p,
        up_to_length (entry_count b),
      )

  own_numbers : entry_count b ≤ length fates → (k : ℕ) → k < entry_count b → get_or (fates_after b (length out) fates) k 0 ≡ k
  unfolding fates_after
  own_numbers room k l = rw (none, repaired_whole b p (room_of (length out)) enough fates) ((outcome_of b p (entry_count b) fates room).1 k l)

pub unchanged : (b out fates : List ℕ) → Bytes b → passes b ≡ true → length b ≤ length out → entry_count b ≤ length fates → Unchanged b out fates
unchanged b out fates small pass long room =
    let p = passing b pass in
    let inside = contents_inside b p in
    let limit = p.limit in
    let none = no_refusal (length b) (length out) (omega arith) limit (omega arith) in
    let enough : length b ≤ room_of (length out) = omega arith in
    let kept = kept_whole b p (room_of (length out)) enough in
    record {
      bytes = output_is b out none ∙ ap (λ (w : List ℕ). w ++ drop (length w) out) (ap (book_anew b) kept ∙ same_book b p small);
      report = no_change_lem b out fates none p enough;
      numbers = own_numbers b out fates none p enough room;
    }

-- repairing twice is repairing once: the written book comes out unchanged, in any output that is long enough
pub twice : (b : List ℕ) (output : ℕ) (out fates : List ℕ) → Bytes b → repair_checks (length b) output ≡ Ok tt → length (written b output) ≤ length out
    → entry_count (written b output) ≤ length fates → Unchanged (written b output) out fates
twice b output out fates small taken long room = unchanged (written b output) out fates (bytes_anew b small (kept_of b (room_of output))) (passes_written b output taken) long room
