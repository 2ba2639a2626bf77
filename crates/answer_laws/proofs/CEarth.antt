-- Any two results that the promise of a function of c_earth allows are equal. Assumes nothing.
use mathlib.Core.Path.{refl}
use Rattle.c_earth.specs.Earth.{sphere_of}
use Rattle.base.proofs.OneAnswer.{OneAnswer, one_answer}
use Rattle.c_earth.specs.contracts.sphere_of as sphere_of

pub sphere_of_answers_once : OneAnswer sphere_of.ended (λ M 𝓤 𝓛. sphere_of.clauses 𝓛)
sphere_of_answers_once =
    one_answer (λ κs inputs. sphere_of inputs.0 inputs.1.0) (λ M 𝓤 𝓛 mem run κs inputs g r after. refl)
