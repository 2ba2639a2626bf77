-- Any two results that the promise of `conic_figures` allows are equal. Assumes nothing.
use mathlib.Core.Path.{refl}
use Rattle.base.proofs.OneAnswer.{OneAnswer, one_answer}
use Rattle.conic.specs.Conic.{conic_answer}
use Rattle.conic.specs.contracts.conic_figures as conic_figures

pub conic_figures_answers_once : OneAnswer conic_figures.ended (λ M 𝓤 𝓛. conic_figures.clauses 𝓛)
conic_figures_answers_once = one_answer (λ κs inputs. conic_answer inputs.0 inputs.1.0) (λ M 𝓤 𝓛 mem run κs inputs g r after. refl)
