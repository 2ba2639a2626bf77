-- Any two results that the promise of a call allows are equal. Assumes nothing.
use mathlib.Core.Path.{refl}
use lib.Ieee.{binary64, of_bits}
use Rattle.base.proofs.OneAnswer.{OneAnswer, one_answer}
use Rattle.text_decimal.specs.Numeral.{is_large}
use Rattle.table_rows.specs.Text.{has_large}
use Rattle.table_blocks.specs.Table.{refusal_at}
use Rattle.text_decimal.specs.contracts.is_large as is_large
use Rattle.table_rows.specs.contracts.has_large as has_large
use Rattle.table_blocks.specs.contracts.refusal_at as refusal_at

pub is_large_answers_once : OneAnswer is_large.ended (λ M 𝓤 𝓛. is_large.clauses 𝓛)
is_large_answers_once = one_answer (λ κs inputs. is_large (of_bits binary64 inputs.0)) (λ M 𝓤 𝓛 mem run κs inputs g r after. refl)

pub has_large_answers_once : OneAnswer has_large.ended (λ M 𝓤 𝓛. has_large.clauses 𝓛)
has_large_answers_once = one_answer (λ κs inputs. has_large inputs.0) (λ M 𝓤 𝓛 mem run κs inputs g r after. refl)

pub refusal_at_answers_once : OneAnswer refusal_at.ended (λ M 𝓤 𝓛. refusal_at.clauses 𝓛)
refusal_at_answers_once = one_answer (λ κs inputs. refusal_at inputs.0 inputs.1.0) (λ M 𝓤 𝓛 mem run κs inputs g r after. refl)
