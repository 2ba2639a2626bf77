-- A portion that leaves the run going is nearer to the target: fewer steps are left.
use Rattle.std.specs.Prelude.{◌≤◌, length}
use Rattle.listing_write.specs.Course.{OnCourse}
use Rattle.strip_lines.proofs.print_course.Given as goal

abbrev pub invariant-loop-form : goal.invariant-loop-form
invariant-loop-form g l = (123 ≤ length l.out) × OnCourse l.book l.setting l.h l.course

abbrev pub decreases-loop-form : goal.decreases-loop-form
decreases-loop-form g l = l.course.left
