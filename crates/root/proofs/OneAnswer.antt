-- Any two results that the promise of `root` allows are equal. Assumes nothing.
use mathlib.Core.Path.{refl}
use Rattle.base.proofs.OneAnswer.{OneAnswer, one_answer}
use Rattle.root.specs.Root.{root_answer}
use Rattle.root.specs.contracts.root as root

pub root_answers_once : OneAnswer root.ended (λ M 𝓤 𝓛. root.clauses 𝓛)
root_answers_once = one_answer (λ κs inputs. root_answer inputs.0) (λ M 𝓤 𝓛 mem run κs inputs g r after. refl)
