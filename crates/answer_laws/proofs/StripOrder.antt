-- Any two results that the promise of a function of strip_order allows are equal. Assumes nothing.
use mathlib.Core.Path.{refl}
use Rattle.strip_order.specs.Order.{order_length, read_order}
use Rattle.base.proofs.OneAnswer.{OneAnswer, one_answer}
use Rattle.strip_order.specs.contracts.order_length as order_length
use Rattle.strip_order.specs.contracts.read_order as read_order

pub order_length_answers_once : OneAnswer order_length.ended (λ M 𝓤 𝓛. order_length.clauses 𝓛)
order_length_answers_once =
    one_answer (λ κs inputs. order_length inputs.0) (λ M 𝓤 𝓛 mem run κs inputs g r after. refl)

pub read_order_answers_once : OneAnswer read_order.ended (λ M 𝓤 𝓛. read_order.clauses 𝓛)
read_order_answers_once =
    one_answer (λ κs inputs. read_order inputs.0 inputs.1.0.now) (λ M 𝓤 𝓛 mem run κs inputs g r after. refl)
