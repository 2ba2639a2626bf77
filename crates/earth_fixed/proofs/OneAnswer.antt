-- Any two results that the promise of the Earth-fixed call allows are equal. Assumes nothing.
use mathlib.Core.Path.{refl}
use Rattle.base.proofs.OneAnswer.{OneAnswer, one_answer}
use Rattle.earth_fixed.specs.Fixed.{fixed_answer}
use Rattle.earth_fixed.specs.contracts.earth_fixed as earth_fixed

pub earth_fixed_answers_once : OneAnswer earth_fixed.ended (λ M 𝓤 𝓛. earth_fixed.clauses 𝓛)
earth_fixed_answers_once =
    one_answer (λ κs inputs. fixed_answer inputs.0 inputs.1.0 inputs.1.1.0) (λ M 𝓤 𝓛 mem run κs inputs g r after. refl)
