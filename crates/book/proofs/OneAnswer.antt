-- Any two results that the promise of a call of the book allows are equal. Assumes nothing.
use mathlib.Core.Path.{refl}
use Rattle.base.proofs.OneAnswer.{OneAnswer, one_answer}
use Rattle.book_check.specs.Passes.{passes}
use Rattle.book.specs.Position.{position_answer}
use Rattle.book.specs.contracts.book_passes as book_passes
use Rattle.book.specs.contracts.position as position

pub book_passes_answers_once : OneAnswer book_passes.ended (λ M 𝓤 𝓛. book_passes.clauses 𝓛)
book_passes_answers_once = one_answer (λ κs inputs. passes inputs.0.now) (λ M 𝓤 𝓛 mem run κs inputs g r after. refl)

pub position_answers_once : OneAnswer position.ended (λ M 𝓤 𝓛. position.clauses 𝓛)
position_answers_once =
    one_answer (λ κs inputs. position_answer inputs.0.now inputs.1.0 inputs.1.1.0) (λ M 𝓤 𝓛 mem run κs inputs g r after. refl)
