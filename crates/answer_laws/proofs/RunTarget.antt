-- Any two results that the promise of a function of run_target allows are equal. Assumes nothing.
use mathlib.Core.Path.{refl}
use Rattle.run_target.specs.Target.{target_checks}
use Rattle.base.proofs.OneAnswer.{OneAnswer, one_answer}
use Rattle.run_target.specs.contracts.target_checks as target_checks

pub target_refusal_answers_once : OneAnswer target_checks.ended (λ M 𝓤 𝓛. target_checks.clauses 𝓛)
target_refusal_answers_once =
    one_answer (λ κs inputs. target_checks inputs.0 inputs.1.0 inputs.1.1.0) (λ M 𝓤 𝓛 mem run κs inputs g r after. refl)
