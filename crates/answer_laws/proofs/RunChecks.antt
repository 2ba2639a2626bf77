-- Any two results that the promise of a function of run_checks allows are equal. Assumes nothing.
use mathlib.Core.Path.{refl}
use Rattle.run_checks.specs.Start.{start_checks}
use Rattle.base.proofs.OneAnswer.{OneAnswer, one_answer}
use Rattle.run_checks.specs.contracts.start_checks as start_checks

pub start_refusal_answers_once : OneAnswer start_checks.ended (λ M 𝓤 𝓛. start_checks.clauses 𝓛)
start_refusal_answers_once =
    one_answer (λ κs inputs. start_checks inputs.0.now inputs.1.0 inputs.1.1.0 inputs.1.1.1.0 inputs.1.1.1.1.0) (λ M 𝓤 𝓛 mem run κs inputs g r after. refl)
