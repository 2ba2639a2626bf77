-- Any two results that the promise of a function of conic_checks allows are equal. Assumes nothing.
use mathlib.Core.Path.{refl}
use Rattle.conic_checks.specs.Refusal.{orbit_checks}
use Rattle.base.proofs.OneAnswer.{OneAnswer, one_answer}
use Rattle.conic_checks.specs.contracts.orbit_checks as orbit_checks

pub orbit_checks_answers_once : OneAnswer orbit_checks.ended (λ M 𝓤 𝓛. orbit_checks.clauses 𝓛)
orbit_checks_answers_once =
    one_answer (λ κs inputs. orbit_checks inputs.0) (λ M 𝓤 𝓛 mem run κs inputs g r after. refl)
