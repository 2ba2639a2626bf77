-- Any two results that the promise of a function of table_blocks allows are equal. Assumes nothing.
use mathlib.Core.Path.{refl}
use Rattle.table_blocks.specs.Steps.{opened}
use Rattle.base.proofs.OneAnswer.{OneAnswer, one_answer}
use Rattle.table_blocks.specs.contracts.opening as opening

pub opening_answers_once : OneAnswer opening.ended (λ M 𝓤 𝓛. opening.clauses 𝓛)
opening_answers_once =
    one_answer (λ κs inputs. opened) (λ M 𝓤 𝓛 mem run κs inputs g r after. refl)
