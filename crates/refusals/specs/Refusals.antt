-- The numbers of the refusals (SPEC 8.2 to 8.5).
use Rattle.std.specs.Prelude.{ℕ}
use Rattle.refusals.specs.declared.Refusal.{Refusal}
use Rattle.refusals.specs.declared.Refusal.TheVariants.{NotADeckFile, WrongLayout, CutSection, TooManyPins, BadPoints, WrongTree, OutOfRange, AlreadyThere}
use Rattle.refusals.specs.declared.Refusal.TheVariants.{NotThere, Full, NotSound, NoRoom, BadPitch, TooFar, BadKind, LongTail}

-- The number that a refusal says to the outside.
abbrev pub number_of : Refusal → ℕ
number_of NotADeckFile = 1
number_of WrongLayout = 2
number_of CutSection = 3
number_of TooManyPins = 4
number_of BadPoints = 5
number_of WrongTree = 6
number_of OutOfRange = 7
number_of AlreadyThere = 8
number_of NotThere = 9
number_of Full = 10
number_of NotSound = 11
number_of NoRoom = 12
number_of BadPitch = 13
number_of TooFar = 14
number_of BadKind = 15
number_of LongTail = 16
