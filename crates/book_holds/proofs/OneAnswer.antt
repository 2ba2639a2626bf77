-- Any two results that the promise of the call allows are equal. Assumes nothing.
use mathlib.Core.Path.{refl}
use Rattle.base.proofs.OneAnswer.{OneAnswer, one_answer}
use Rattle.book_holds.specs.Answer.{holds_answer}
use Rattle.book_holds.specs.contracts.book_holds as book_holds

pub book_holds_answers_once : OneAnswer book_holds.ended (λ M 𝓤 𝓛. book_holds.clauses 𝓛)
book_holds_answers_once = one_answer (λ κs inputs. holds_answer inputs.0.now inputs.1.0.now) (λ M 𝓤 𝓛 mem run κs inputs g r after. refl)
