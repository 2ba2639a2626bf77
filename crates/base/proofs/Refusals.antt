-- A refusal is read back from its number. Assumes nothing.
use mathlib.Core.Path.{◌≡◌, refl}
use Rattle.std.specs.Prelude.{Some}
use Rattle.base.specs.Refusals.{number_of, refusal_of}
use Rattle.base.specs.declared.Refusal.{Refusal}
use Rattle.base.specs.declared.Refusal.TheVariants.{Book, Step, Moment, Setting, Target, Cover, NotFinite, Date, Parabola, StraightLine, Root, Angle, Listing, Centre, Stored, Short, Large, NotNext}

pub reads_back : (k : Refusal) → refusal_of (number_of k) ≡ Some k
reads_back Book = refl
reads_back Step = refl
reads_back Moment = refl
reads_back Setting = refl
reads_back Target = refl
reads_back Cover = refl
reads_back NotFinite = refl
reads_back Date = refl
reads_back Parabola = refl
reads_back StraightLine = refl
reads_back Root = refl
reads_back Angle = refl
reads_back Listing = refl
reads_back Centre = refl
reads_back Stored = refl
reads_back Short = refl
reads_back Large = refl
reads_back NotNext = refl
