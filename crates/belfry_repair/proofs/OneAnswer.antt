-- Any two outcomes that the promise of the exported repair allows are equal: the returned number and all the memory that it may write,
-- together. Assumes nothing.
use mathlib.Core.Path.{refl}
use Rattle.base.proofs.OneAnswer.{Tell, OneOutcome, one_outcome}
use Rattle.repair_book.specs.Repaired.{repair_outcome}
use Rattle.belfry_repair.specs.Lent.{RepairMemory, repair_memory, of_repair}
use Rattle.belfry_repair.specs.contracts.belfry_repair as belfry_repair

abbrev tell_repair : Tell belfry_repair.ended (λ κs. RepairMemory)
tell_repair κs r after = repair_memory r after.1.0.now after.1.1.0.now after.1.1.1.0.now

pub belfry_repair_answers_once : OneOutcome belfry_repair.ended (λ M 𝓤 𝓛. belfry_repair.clauses 𝓛) (λ κs. RepairMemory) tell_repair
belfry_repair_answers_once =
    one_outcome (λ κs. RepairMemory) tell_repair
    (λ κs inputs. of_repair inputs.1.1.1.0.now (repair_outcome inputs.0.now inputs.1.0.now inputs.1.1.0.now))
    (λ M 𝓤 𝓛 mem run κs inputs g r after. refl)
