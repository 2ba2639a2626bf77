-- Any two results that the promise of a function of listing_read allows are equal. Assumes nothing.
use mathlib.Core.Path.{refl}
use Rattle.listing_read.specs.Bytes.{at_top}
use Rattle.listing_read.specs.Form.{row_of}
use Rattle.base.proofs.OneAnswer.{OneAnswer, one_answer}
use Rattle.listing_read.specs.contracts.row_of as row_of
use Rattle.listing_read.specs.contracts.top as top

pub row_of_answers_once : OneAnswer row_of.ended (λ M 𝓤 𝓛. row_of.clauses 𝓛)
row_of_answers_once =
    one_answer (λ κs inputs. row_of inputs.0) (λ M 𝓤 𝓛 mem run κs inputs g r after. refl)

pub top_answers_once : OneAnswer top.ended (λ M 𝓤 𝓛. top.clauses 𝓛)
top_answers_once =
    one_answer (λ κs inputs. at_top) (λ M 𝓤 𝓛 mem run κs inputs g r after. refl)
