-- Any two results that the promise of a call of the calendar allows are equal. Assumes nothing.
use mathlib.Core.Path.{refl}
use Rattle.base.proofs.OneAnswer.{OneAnswer, one_answer}
use Rattle.calendar.specs.Answers.{date_answer, day_answer, julian_answer}
use Rattle.calendar.specs.contracts.Calendar.from_day as from_day
use Rattle.calendar.specs.contracts.Calendar.from_date as from_date
use Rattle.calendar.specs.contracts.Calendar.twice_julian_date as twice_julian_date

pub from_day_answers_once : OneAnswer from_day.ended (λ M 𝓤 𝓛. from_day.clauses 𝓛)
from_day_answers_once = one_answer (λ κs inputs. date_answer inputs.0) (λ M 𝓤 𝓛 mem run κs inputs g r after. refl)

pub from_date_answers_once : OneAnswer from_date.ended (λ M 𝓤 𝓛. from_date.clauses 𝓛)
from_date_answers_once = one_answer (λ κs inputs. day_answer inputs.0 inputs.1.0 inputs.1.1.0) (λ M 𝓤 𝓛 mem run κs inputs g r after. refl)

pub twice_julian_date_answers_once : OneAnswer twice_julian_date.ended (λ M 𝓤 𝓛. twice_julian_date.clauses 𝓛)
twice_julian_date_answers_once = one_answer (λ κs inputs. julian_answer inputs.0) (λ M 𝓤 𝓛 mem run κs inputs g r after. refl)
