-- Document 01, "Refusal numbers", and document 02: the table goes from 1 to 18. If a refusal has a number of the table, the number that a
-- call returns is neither 0 nor a run's 100.
use Rattle.std.specs.Prelude.{ℕ, Bool, true, ◌&&◌, Result}
use Rattle.base.specs.Choice.{◌≤?◌}
use Rattle.run.specs.declared.Outcome.{Outcome}
use Rattle.base.specs.Checks.{refused_by}
use Rattle.base.specs.Refusals.{number_of}
use Rattle.base.specs.declared.Refusal.{Refusal}

abbrev pub tabled : ℕ → Bool
tabled k = 1 ≤? k && k ≤? 18

abbrev pub in_table : {A : Type 0} → Result A Refusal → Bool
in_table answer = refused_by (λ k. tabled (number_of k)) answer

-- of a run, for any refusal whose number is told
abbrev pub outcome_told_by : {R : Type 0} → (R → ℕ) → Outcome R → Bool
outcome_told_by told Outcome.Arrived = true
outcome_told_by told Outcome.Going = true
outcome_told_by told (Outcome.Refused k) = tabled (told k)

abbrev pub outcome_told : Outcome Refusal → Bool
outcome_told outcome = outcome_told_by number_of outcome
