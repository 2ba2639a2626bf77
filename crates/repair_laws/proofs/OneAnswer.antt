-- Any two outcomes that the promise of `repair_book::repair` allows are equal: the answer and all the memory that it may write, together.
-- Assumes nothing.
use mathlib.Core.Path.{refl}
use Rattle.base.proofs.OneAnswer.{Tell, OneOutcome, one_outcome}
use Rattle.repair_book.specs.Repaired.{Outcome, outcome_of, repair_outcome}
use Rattle.repair_book.specs.contracts.repair as repair

abbrev tell_repair : Tell repair.ended (λ κs. Outcome)
tell_repair κs r after = outcome_of r after.1.0.now after.1.1.0.now

pub repair_answers_once : OneOutcome repair.ended (λ M 𝓤 𝓛. repair.clauses 𝓛) (λ κs. Outcome) tell_repair
repair_answers_once =
    one_outcome (λ κs. Outcome) tell_repair
    (λ κs inputs. repair_outcome inputs.0.now inputs.1.0.now inputs.1.1.0.now)
    (λ M 𝓤 𝓛 mem run κs inputs g r after. refl)
