-- Any two results that the promise of a call allows are equal. Assumes nothing.
use mathlib.Core.List.{[]}
use mathlib.Core.Path.{refl}
use lib.ListN.{length}
use Rattle.base.proofs.OneAnswer.{OneAnswer, one_answer}
use Rattle.listing_read.specs.Form.{placed, row_of}
use Rattle.listing_scan.specs.Bytes.{told}
use Rattle.listing_read.specs.Bytes.{next_row}
use Rattle.compare_steps.specs.Steps.{steps}
use Rattle.compare_report.specs.Report.{part_after, until_feed, same}
use Rattle.compare_report.specs.Turns.{side_of}
use Rattle.compare_lines.specs.Stages.{line_of, wants_first, wants_second, place_of}
use Rattle.compare_blocks.specs.Sides.{opened, going_on}
use Rattle.listing_read.specs.contracts.place_after as place_after
use Rattle.listing_read.specs.contracts.next_row as next_row
use Rattle.listing_read.specs.contracts.last_row as last_row
use Rattle.compare_steps.specs.contracts.steps_between as steps_between
use Rattle.compare_report.specs.contracts.side_of as side_of
use Rattle.compare_report.specs.contracts.next_part as next_part
use Rattle.compare_report.specs.contracts.same.line_length as line_length
use Rattle.compare_report.specs.contracts.same.same_bytes as same_bytes
use Rattle.compare_lines.specs.contracts.line_of as line_of
use Rattle.compare_lines.specs.contracts.wants_first as wants_first
use Rattle.compare_lines.specs.contracts.wants_second as wants_second
use Rattle.compare_lines.specs.contracts.place_of as place_of
use Rattle.compare_blocks.specs.contracts.opening as opening
use Rattle.compare_blocks.specs.contracts.go_on as go_on

pub place_after_answers_once : OneAnswer place_after.ended (λ M 𝓤 𝓛. place_after.clauses 𝓛)
place_after_answers_once = one_answer (λ κs inputs. placed inputs.0 inputs.1.0) (λ M 𝓤 𝓛 mem run κs inputs g r after. refl)

pub steps_between_answers_once : OneAnswer steps_between.ended (λ M 𝓤 𝓛. steps_between.clauses 𝓛)
steps_between_answers_once = one_answer (λ κs inputs. steps inputs.0 inputs.1.0) (λ M 𝓤 𝓛 mem run κs inputs g r after. refl)

pub side_of_answers_once : OneAnswer side_of.ended (λ M 𝓤 𝓛. side_of.clauses 𝓛)
side_of_answers_once = one_answer (λ κs inputs. side_of inputs.0 inputs.1.0) (λ M 𝓤 𝓛 mem run κs inputs g r after. refl)

pub next_row_answers_once : OneAnswer next_row.ended (λ M 𝓤 𝓛. next_row.clauses 𝓛)
next_row_answers_once = one_answer (λ κs inputs. next_row inputs.0.now inputs.1.0 inputs.1.1.0) (λ M 𝓤 𝓛 mem run κs inputs g r after. refl)

pub last_row_answers_once : OneAnswer last_row.ended (λ M 𝓤 𝓛. last_row.clauses 𝓛)
last_row_answers_once = one_answer (λ κs inputs. row_of (told inputs.0 [])) (λ M 𝓤 𝓛 mem run κs inputs g r after. refl)

pub next_part_answers_once : OneAnswer next_part.ended (λ M 𝓤 𝓛. next_part.clauses 𝓛)
next_part_answers_once = one_answer (λ κs inputs. part_after inputs.0) (λ M 𝓤 𝓛 mem run κs inputs g r after. refl)

pub line_length_answers_once : OneAnswer line_length.ended (λ M 𝓤 𝓛. line_length.clauses 𝓛)
line_length_answers_once = one_answer (λ κs inputs. length (until_feed inputs.0.now)) (λ M 𝓤 𝓛 mem run κs inputs g r after. refl)

pub same_bytes_answers_once : OneAnswer same_bytes.ended (λ M 𝓤 𝓛. same_bytes.clauses 𝓛)
same_bytes_answers_once = one_answer (λ κs inputs. same inputs.0.now inputs.1.0.now) (λ M 𝓤 𝓛 mem run κs inputs g r after. refl)

pub opening_answers_once : OneAnswer opening.ended (λ M 𝓤 𝓛. opening.clauses 𝓛)
opening_answers_once = one_answer (λ κs inputs. opened) (λ M 𝓤 𝓛 mem run κs inputs g r after. refl)

pub go_on_answers_once : OneAnswer go_on.ended (λ M 𝓤 𝓛. go_on.clauses 𝓛)
go_on_answers_once = one_answer (λ κs inputs. going_on inputs.0 inputs.1.0 inputs.1.1.0) (λ M 𝓤 𝓛 mem run κs inputs g r after. refl)

pub line_of_answers_once : OneAnswer line_of.ended (λ M 𝓤 𝓛. line_of.clauses 𝓛)
line_of_answers_once = one_answer (λ κs inputs. line_of inputs.0 inputs.1.0) (λ M 𝓤 𝓛 mem run κs inputs g r after. refl)

pub wants_first_answers_once : OneAnswer wants_first.ended (λ M 𝓤 𝓛. wants_first.clauses 𝓛)
wants_first_answers_once = one_answer (λ κs inputs. wants_first inputs.0) (λ M 𝓤 𝓛 mem run κs inputs g r after. refl)

pub wants_second_answers_once : OneAnswer wants_second.ended (λ M 𝓤 𝓛. wants_second.clauses 𝓛)
wants_second_answers_once = one_answer (λ κs inputs. wants_second inputs.0) (λ M 𝓤 𝓛 mem run κs inputs g r after. refl)

pub place_of_answers_once : OneAnswer place_of.ended (λ M 𝓤 𝓛. place_of.clauses 𝓛)
place_of_answers_once = one_answer (λ κs inputs. place_of inputs.0) (λ M 𝓤 𝓛 mem run κs inputs g r after. refl)
