-- Document 01, "Refusal numbers", and those that document 02 adds.
use Rattle.std.specs.Prelude.{ℕ, Option, Some, None}
use Rattle.base.specs.Choice.{if◌then◌otherwise◌, ◌=?◌}
use Rattle.base.specs.declared.Refusal.{Refusal}
use Rattle.base.specs.declared.Refusal.TheVariants.{Book, Step, Moment, Setting, Target, Cover, NotFinite, Date, Parabola, StraightLine, Root, Angle, Listing, Centre, Stored, Short, Large, NotNext}

-- the number by which the documents know a refusal
abbrev pub number_of : Refusal → ℕ
number_of Book = 1
number_of Step = 2
number_of Moment = 3
number_of Setting = 4
number_of Target = 5
number_of Cover = 6
number_of NotFinite = 7
number_of Date = 8
number_of Parabola = 9
number_of StraightLine = 10
number_of Root = 11
number_of Angle = 12
number_of Listing = 13
number_of Centre = 14
number_of Stored = 15
number_of Short = 16
number_of Large = 17
number_of NotNext = 18

-- a refusal where a refusal is asked for
abbrev pub itself : Refusal → Refusal
itself k = k

-- and the refusal of a number, if there is one
abbrev pub refusal_of : ℕ → Option Refusal
refusal_of n =
    if n =? 1 then Some Book otherwise
    if n =? 2 then Some Step otherwise
    if n =? 3 then Some Moment otherwise
    if n =? 4 then Some Setting otherwise
    if n =? 5 then Some Target otherwise
    if n =? 6 then Some Cover otherwise
    if n =? 7 then Some NotFinite otherwise
    if n =? 8 then Some Date otherwise
    if n =? 9 then Some Parabola otherwise
    if n =? 10 then Some StraightLine otherwise
    if n =? 11 then Some Root otherwise
    if n =? 12 then Some Angle otherwise
    if n =? 13 then Some Listing otherwise
    if n =? 14 then Some Centre otherwise
    if n =? 15 then Some Stored otherwise
    if n =? 16 then Some Short otherwise
    if n =? 17 then Some Large otherwise
    if n =? 18 then Some NotNext otherwise None
