-- The outcome of `repair_book::repair`, as the exported call returns it. Assumes nothing.
use Prim.Native.Nat.{ℕ}
use mathlib.Core.List.{List}
use mathlib.Core.Path.{◌≡◌, sym, ap, ◌∙◌}
use Rattle.base.specs.Refusals.{number_of}
use Rattle.base.specs.declared.Refusal.{Refusal}
use Rattle.std.specs.Prelude.{Result, Ok, Err}
use Rattle.repair_book.specs.Repaired.{Outcome, outcome_of}
use Rattle.repair_book.specs.declared.Report.{Report}
use Rattle.belfry_repair.specs.Lent.{report_in, repair_memory, of_repair}

module _ (before output fates : List ℕ) (o : Outcome) (answer : Result Report Refusal) (left : outcome_of answer output fates ≡ o) where
  pub written : (r : Report) (report : List ℕ) → answer ≡ Ok r → report ≡ report_in r → repair_memory 0 output fates report ≡ of_repair before o
  written r report d e =
      ap (λ (x : List ℕ). repair_memory 0 output fates x) e ∙ ap (λ (a : Result Report Refusal). of_repair before (outcome_of a output fates)) (sym d) ∙ ap (of_repair before) left

  pub refused : (k : Refusal) → answer ≡ Err k → repair_memory (number_of k) output fates before ≡ of_repair before o
  refused k d = ap (λ (a : Result Report Refusal). of_repair before (outcome_of a output fates)) (sym d) ∙ ap (of_repair before) left
