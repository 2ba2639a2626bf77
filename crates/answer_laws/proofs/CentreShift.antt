-- Any two results that the promise of a function of centre_shift allows are equal. Assumes nothing.
use mathlib.Core.Path.{refl}
use Rattle.centre_shift.specs.Shift.{shifted}
use Rattle.base.proofs.OneAnswer.{OneAnswer, one_answer}
use Rattle.centre_shift.specs.contracts.shifted_state as shifted_state

pub shifted_state_answers_once : OneAnswer shifted_state.ended (λ M 𝓤 𝓛. shifted_state.clauses 𝓛)
shifted_state_answers_once =
    one_answer (λ κs inputs. shifted inputs.0 inputs.1.0 inputs.1.1.0 inputs.1.1.1.0) (λ M 𝓤 𝓛 mem run κs inputs g r after. refl)
