-- Any two results that the promise of `sine_cosine` allows are equal. Assumes nothing.
use mathlib.Core.Path.{refl}
use Rattle.base.proofs.OneAnswer.{OneAnswer, one_answer}
use Rattle.sine.specs.Sine.{sine_cosine_answer}
use Rattle.sine.specs.contracts.sine_cosine as sine_cosine

pub sine_cosine_answers_once : OneAnswer sine_cosine.ended (λ M 𝓤 𝓛. sine_cosine.clauses 𝓛)
sine_cosine_answers_once = one_answer (λ κs inputs. sine_cosine_answer inputs.0) (λ M 𝓤 𝓛 mem run κs inputs g r after. refl)
