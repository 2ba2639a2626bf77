-- Any two results that the promise of a move allows are equal. Assumes nothing.
use mathlib.Core.Path.{refl}
use Rattle.base.proofs.OneAnswer.{OneAnswer, one_answer}
use Rattle.centre.specs.Move.{move_answer}
use Rattle.centre.specs.contracts.move_to as move_to

pub move_answers_once : OneAnswer move_to.ended (λ M 𝓤 𝓛. move_to.clauses 𝓛)
move_answers_once =
    one_answer (λ κs inputs. move_answer inputs.0.now inputs.1.0 inputs.1.1.0 inputs.1.1.1.0)
    (λ M 𝓤 𝓛 mem run κs inputs g r after. refl)
