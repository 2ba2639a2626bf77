-- Any two results that the promise of the acceleration call allows are equal. Assumes nothing.
use mathlib.Core.Path.{refl}
use Rattle.base.proofs.OneAnswer.{OneAnswer, one_answer}
use Rattle.gravity.specs.Acceleration.{acceleration_answer}
use Rattle.gravity.specs.contracts.acceleration as acceleration

pub acceleration_answers_once : OneAnswer acceleration.ended (λ M 𝓤 𝓛. acceleration.clauses 𝓛)
acceleration_answers_once =
    one_answer (λ κs inputs. acceleration_answer inputs.0.now inputs.1.0 inputs.1.1.0 inputs.1.1.1.0 inputs.1.1.1.1.0)
    (λ M 𝓤 𝓛 mem run κs inputs g r after. refl)
