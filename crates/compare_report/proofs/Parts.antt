-- The order of the report's parts. Assumes nothing.
use mathlib.Core.List.{append-nil}
use mathlib.Core.Path.{refl, sym}
use Rattle.compare_report.specs.declared.Part.{Part}
use Rattle.compare_report.specs.declared.Part.TheVariants.{Header, States, Outcome, End, Over}
use Rattle.compare_report.specs.Report.{part_after, Follows, from_end}

-- the report from a part on is that part and the report from the next one on
pub follows : (p : Part) → Follows p (part_after p)
follows Header a b = refl
follows States a b = refl
follows Outcome a b = refl
follows End a b = sym (append-nil (from_end a b))
follows Over a b = refl
