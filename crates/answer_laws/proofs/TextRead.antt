-- Any two results that the promise of a function of text_read allows are equal. Assumes nothing.
use lib.Ieee.{binary64, of_bits}
use mathlib.Core.Path.{refl}
use Rattle.text_read.specs.Fields.{read_decimal, read_hex16}
use Rattle.text_read.specs.Patterns.{bits_of}
use Rattle.base.proofs.OneAnswer.{OneAnswer, one_answer}
use Rattle.text_read.specs.contracts.bits_of as bits_of
use Rattle.text_read.specs.contracts.float_of_bits as float_of_bits
use Rattle.text_read.specs.contracts.read_decimal as read_decimal
use Rattle.text_read.specs.contracts.read_hex16 as read_hex16

pub bits_of_answers_once : OneAnswer bits_of.ended (λ M 𝓤 𝓛. bits_of.clauses 𝓛)
bits_of_answers_once =
    one_answer (λ κs inputs. bits_of inputs.0) (λ M 𝓤 𝓛 mem run κs inputs g r after. refl)

pub float_of_bits_answers_once : OneAnswer float_of_bits.ended (λ M 𝓤 𝓛. float_of_bits.clauses 𝓛)
float_of_bits_answers_once =
    one_answer (λ κs inputs. of_bits binary64 inputs.0) (λ M 𝓤 𝓛 mem run κs inputs g r after. refl)

pub read_decimal_answers_once : OneAnswer read_decimal.ended (λ M 𝓤 𝓛. read_decimal.clauses 𝓛)
read_decimal_answers_once =
    one_answer (λ κs inputs. read_decimal inputs.0.now inputs.1.0) (λ M 𝓤 𝓛 mem run κs inputs g r after. refl)

pub read_hex16_answers_once : OneAnswer read_hex16.ended (λ M 𝓤 𝓛. read_hex16.clauses 𝓛)
read_hex16_answers_once =
    one_answer (λ κs inputs. read_hex16 inputs.0.now inputs.1.0) (λ M 𝓤 𝓛 mem run κs inputs g r after. refl)
