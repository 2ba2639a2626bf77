-- Any two results that the promise of a call about an injection allows are equal. Assumes nothing.
use mathlib.Core.Path.{refl}
use Rattle.base.proofs.OneAnswer.{OneAnswer, one_answer}
use Rattle.gravity_stored.specs.Injection.{injection_answer, launched}
use Rattle.gravity_stored.specs.contracts.inject as inject
use Rattle.gravity_stored.specs.contracts.launch as launch

pub inject_answers_once : OneAnswer inject.ended (λ M 𝓤 𝓛. inject.clauses 𝓛)
inject_answers_once =
    one_answer (λ κs inputs. injection_answer inputs.0.now inputs.1.0 inputs.1.1.0) (λ M 𝓤 𝓛 mem run κs inputs g r after. refl)

pub launch_answers_once : OneAnswer launch.ended (λ M 𝓤 𝓛. launch.clauses 𝓛)
launch_answers_once =
    one_answer (λ κs inputs. launched inputs.0.now inputs.1.0 inputs.1.1.0) (λ M 𝓤 𝓛 mem run κs inputs g r after. refl)
