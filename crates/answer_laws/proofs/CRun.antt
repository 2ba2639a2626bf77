-- Any two results that the promise of a function of c_run allows are equal. Assumes nothing.
use mathlib.Core.Path.{refl}
use Rattle.c_run.specs.Lent.{guesses_of}
use Rattle.base.proofs.OneAnswer.{OneAnswer, one_answer}
use Rattle.c_run.specs.contracts.guesses_of as guesses_of

pub guesses_of_answers_once : OneAnswer guesses_of.ended (λ M 𝓤 𝓛. guesses_of.clauses 𝓛)
guesses_of_answers_once =
    one_answer (λ κs inputs. guesses_of inputs.0) (λ M 𝓤 𝓛 mem run κs inputs g r after. refl)
