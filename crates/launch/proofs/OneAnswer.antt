-- Any two results that the promise of the injection call allows are equal. Assumes nothing.
use mathlib.Core.Path.{refl}
use Rattle.base.proofs.OneAnswer.{OneAnswer, one_answer}
use Rattle.launch.specs.Sphere.{sphere_answer}
use Rattle.launch.specs.contracts.from_sphere as from_sphere

pub from_sphere_answers_once : OneAnswer from_sphere.ended (λ M 𝓤 𝓛. from_sphere.clauses 𝓛)
from_sphere_answers_once =
    one_answer (λ κs inputs. sphere_answer inputs.0 inputs.1.0 inputs.1.1.0 inputs.1.1.1.0) (λ M 𝓤 𝓛 mem run κs inputs g r after. refl)
