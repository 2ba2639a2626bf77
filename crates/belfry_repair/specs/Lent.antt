-- What the exported repair returns and writes to the caller's memory.
use Rattle.base.specs.declared.Refusal.{Refusal}
use Rattle.std.specs.Prelude.{ℕ, Bool, List, [], ◌∷◌, Result, Ok, Err}
use Rattle.base.specs.Refusals.{number_of}
use Rattle.base.specs.Choice.{if◌then◌otherwise◌}
use Rattle.repair_book.specs.Repaired.{Outcome}
use Rattle.repair_book.specs.declared.Report.{Report}

-- a mark as a number: 1 if something changed
abbrev pub mark_of : Bool → ℕ
mark_of changed = if changed then 1 otherwise 0

-- written: the entries looked at and kept, the bytes written, and the marks of total, count, order and offsets
abbrev pub report_in : Report → List ℕ
report_in r =
    r.looked ∷ r.kept ∷ r.written ∷ mark_of r.changed.total ∷ mark_of r.changed.count ∷ mark_of r.changed.order ∷ mark_of r.changed.offsets ∷ []

-- the result of the call: the number returned, and the contents of each place that it may write
pub record RepairMemory : Type 0 where
  pub returned : ℕ
  pub output : List ℕ
  pub fates : List ℕ
  pub report : List ℕ

abbrev pub repair_memory : ℕ → List ℕ → List ℕ → List ℕ → RepairMemory
repair_memory returned output fates report = record { returned = returned; output = output; fates = fates; report = report }

-- 0 and the report if a book was written; otherwise the refusal number, and the report is unchanged
abbrev pub of_answer : List ℕ → Result Report Refusal → List ℕ → List ℕ → RepairMemory
of_answer before (Ok r) output fates = repair_memory 0 output fates (report_in r)
of_answer before (Err k) output fates = repair_memory (number_of k) output fates before

abbrev pub of_repair : List ℕ → Outcome → RepairMemory
of_repair before o = of_answer before o.answer o.output o.fates
