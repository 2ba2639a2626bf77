-- The buffer holds two lines, and a run that passed starts on course.
use Rattle.std.proofs.Common.{arith}
use Rattle.run.proofs.Start.{may_walk}
use Rattle.listing_write.proofs.Lengths.{header_fits}
use Rattle.listing_write.proofs.Courses.{starts}
use Rattle.strip_lines.proofs.print_listing.Goals as goal

pub put_state-n-requires : goal.put_state-n-requires
put_state-n-requires g c =
    omega (
      arith,
      header_fits c.args.h (omega (arith, c.ranges.h.fits)),
      c.put_header-header.ensures.next,
      c.put_header-header.auto.out,
    )

pub start-requires : goal.start-requires
start-requires g c = let may = may_walk _ _ _ _ _ c.requires in (may.long, may.reachable)

pub print_course-requires-clause-on_course : goal.print_course-requires-clause-on_course
print_course-requires-clause-on_course g c =
    let x = c.args in
    rw c.start.ensures (starts x.book.now x.setting x.from x.h x.target (may_walk _ _ _ _ _ c.requires))
