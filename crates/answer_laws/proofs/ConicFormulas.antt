-- Any two results that the promise of a function of conic_formulas allows are equal. Assumes nothing.
use mathlib.Core.Path.{refl}
use Rattle.conic_formulas.specs.Orbit.{orbit}
use Rattle.base.proofs.OneAnswer.{OneAnswer, one_answer}
use Rattle.conic_formulas.specs.contracts.orbit_of as orbit_of

pub orbit_of_answers_once : OneAnswer orbit_of.ended (λ M 𝓤 𝓛. orbit_of.clauses 𝓛)
orbit_of_answers_once =
    one_answer (λ κs inputs. orbit inputs.0 inputs.1.0) (λ M 𝓤 𝓛 mem run κs inputs g r after. refl)
