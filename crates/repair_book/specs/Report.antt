-- Document 02, R-10: the report "says if total, count, order or offsets changed".
use Rattle.std.specs.Prelude.{ℕ, ◌+◌, ◌-◌, Bool, not, List, length, get_or}
use Rattle.base.specs.Choice.{◌<?◌, ◌=?◌}
use Rattle.book.specs.Contents.{stated_total, entry_count, offset_of}
use Rattle.book.specs.Passes.{all_below}
use Rattle.repair_sort.specs.Reasons.{looked_at}
use Rattle.repair_write.specs.Anew.{book_length, place_anew}
use Rattle.repair_book.specs.declared.Changed.{Changed}
use Rattle.repair_book.specs.declared.Report.{Report}

-- the written total differs from the stated one
abbrev pub total_changed : List ℕ → List ℕ → Bool
total_changed b kept = not (book_length b kept =? stated_total b)

-- the written count differs from the stated one
abbrev pub count_changed : List ℕ → List ℕ → Bool
count_changed b kept = not (length kept =? entry_count b)

-- the kept entries are in the order of the contents: each number is above the one before it
abbrev pub as_in_contents : List ℕ → Bool
as_in_contents kept = all_below (length kept - 1) (λ k. get_or kept k 0 <? get_or kept (k + 1) 0)

-- every kept entry keeps its offset
abbrev pub offsets_stay : List ℕ → List ℕ → Bool
offsets_stay b kept = all_below (length kept) (λ k. offset_of b (get_or kept k 0) =? place_anew b kept k)

abbrev pub changed_of : List ℕ → List ℕ → Changed
changed_of b kept =
    record { total = total_changed b kept; count = count_changed b kept; order = not (as_in_contents kept); offsets = not (offsets_stay b kept) }

unfoldable pub report_of : List ℕ → List ℕ → Report
report_of b kept =
    record {
      looked = looked_at b;
      kept = length kept;
      written = book_length b kept;
      changed = changed_of b kept;
    }
