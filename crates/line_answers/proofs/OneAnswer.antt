-- Any two results that the promise of a call allows are equal. Assumes nothing.
use mathlib.Core.Path.{refl}
use Rattle.base.proofs.OneAnswer.{OneAnswer, one_answer}
use Rattle.line_answers.specs.Calls.{answer_to}
use Rattle.line_answers.specs.contracts.answer_to as answer_to

pub answer_to_answers_once : OneAnswer answer_to.ended (λ M 𝓤 𝓛. answer_to.clauses 𝓛)
answer_to_answers_once = one_answer (λ κs inputs. answer_to inputs.0.now inputs.1.0.now) (λ M 𝓤 𝓛 mem run κs inputs g r after. refl)
