-- Any two results that the promise of the common checks allows are equal. Assumes nothing.
use mathlib.Core.Path.{refl}
use Rattle.base.proofs.OneAnswer.{OneAnswer, one_answer}
use Rattle.state_checks.specs.Common.{common_checks}
use Rattle.state_checks.specs.contracts.common_checks as common

pub common_checks_answers_once : OneAnswer common.ended (λ M 𝓤 𝓛. common.clauses 𝓛)
common_checks_answers_once =
    one_answer (λ κs i. common_checks i.0.now i.1.0 i.1.1.0 i.1.1.1.0 i.1.1.1.1.0) (λ M 𝓤 𝓛 mem run κs inputs g r after. refl)
