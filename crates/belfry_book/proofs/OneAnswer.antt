-- Any two outcomes that the promise of the exported call allows are equal: the returned number and the memory that it may write, together.
-- Assumes nothing.
use Prim.Native.Nat.{ℕ}
use mathlib.Core.Path.{refl}
use Rattle.base.proofs.OneAnswer.{Tell, OneOutcome, one_outcome}
use Rattle.book_holds.specs.Answer.{holds_answer}
use Rattle.c_answer.specs.Handed.{Handed, handed}
use Rattle.belfry_book.specs.Lent.{of_holds}
use Rattle.belfry_book.specs.contracts.belfry_book_holds as belfry_book_holds

abbrev tell_holds : Tell belfry_book_holds.ended (λ κs. Handed ℕ)
tell_holds κs r after = handed r after.1.1.0.now

pub belfry_book_holds_answers_once : OneOutcome belfry_book_holds.ended (λ M 𝓤 𝓛. belfry_book_holds.clauses 𝓛) (λ κs. Handed ℕ) tell_holds
belfry_book_holds_answers_once =
    one_outcome (λ κs. Handed ℕ) tell_holds
    (λ κs inputs. of_holds inputs.1.1.0.now (holds_answer inputs.0.now inputs.1.0.now))
    (λ M 𝓤 𝓛 mem run κs inputs g r after. refl)
