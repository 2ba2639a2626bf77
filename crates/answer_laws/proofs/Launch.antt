-- Any two results that the promise of a function of launch allows are equal. Assumes nothing.
use mathlib.Core.Path.{refl}
use Rattle.launch.specs.Signed.{signed_of}
use Rattle.base.proofs.OneAnswer.{OneAnswer, one_answer}
use Rattle.launch.specs.contracts.signed_of as signed_of

pub signed_of_answers_once : OneAnswer signed_of.ended (λ M 𝓤 𝓛. signed_of.clauses 𝓛)
signed_of_answers_once =
    one_answer (λ κs inputs. signed_of inputs.0) (λ M 𝓤 𝓛 mem run κs inputs g r after. refl)
