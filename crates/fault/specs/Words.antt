-- Each refusal as text. Assumes nothing.
use Rattle.std.specs.Prelude.{ℕ, List, [], ◌++◌, codes, decimal}
use Rattle.fault.specs.Table.{number_of, part_of, spot_of}
use Rattle.fault.specs.declared.Displacements.{Displacements}
use Rattle.fault.specs.declared.Displacements.TheVariants as displacements
use Rattle.fault.specs.declared.Fault.{Fault}
use Rattle.fault.specs.declared.Fault.TheVariants.{HalfWidth, ShortList, NoMembers, TooManyMembers, LargeHalf, RepeatedCode, LargeDisplacement, NotFound, Found, PlaceTaken, Misplaced, ShortOutput, EndOfBytes, MalformedNumber, OutOfRange, NotMade, PlaceNotRising, BytesLeft}
use Rattle.fault.specs.declared.Half.{Half}
use Rattle.fault.specs.declared.Half.TheVariants.{Front, Back}
use Rattle.fault.specs.declared.List as lists
use Rattle.fault.specs.declared.List.TheVariants as list
use Rattle.fault.specs.declared.Made.{Made}
use Rattle.fault.specs.declared.Made.TheVariants.{Code, Entry}

abbrev pub short_list : lists.List → List ℕ
short_list list.First = codes "list 1 is too short: "
short_list list.Second = codes "list 2 is too short: "
short_list list.Slots = codes "list 3 is too short: "
short_list list.Work = codes "list 4 is too short: "

abbrev pub large_half_of : Half → List ℕ
large_half_of Front = codes "the front half is too large for the half width: position "
large_half_of Back = codes "the back half is too large for the half width: position "

abbrev pub large_displacement : Displacements → List ℕ
large_displacement displacements.First = codes "list 1 holds too large a displacement: index "
large_displacement displacements.Second = codes "list 2 holds too large a displacement: index "

abbrev pub not_made : Made → List ℕ
not_made Code = codes "no code has these halves: byte "
not_made Entry = codes "no entry has this number: byte "

-- the words for people, up to the spot
abbrev pub before_spot_of : Fault → List ℕ
before_spot_of (HalfWidth r) = codes "the half width is not in 4 to 16: "
before_spot_of (ShortList which len) = short_list which
before_spot_of NoMembers = codes "there are too few members: "
before_spot_of (TooManyMembers members) = codes "there are too many members for the half width: "
before_spot_of (LargeHalf half position) = large_half_of half
before_spot_of (RepeatedCode position) = codes "the code came before: position "
before_spot_of (LargeDisplacement which index) = large_displacement which
before_spot_of (NotFound place) = codes "the code is not there: place "
before_spot_of (Found place) = codes "the code is there already: place "
before_spot_of (PlaceTaken place) = codes "another code has the place: place "
before_spot_of (Misplaced slot) = codes "the slot holds a code that belongs elsewhere: slot "
before_spot_of (ShortOutput needed) = codes "the output is too short: needed are "
before_spot_of (EndOfBytes len) = codes "the bytes end too early: there are "
before_spot_of (MalformedNumber offset) = codes "the number is too large or not in its shortest form: byte "
before_spot_of (OutOfRange offset) = codes "the number is out of its range: byte "
before_spot_of (NotMade made offset) = not_made made
before_spot_of (PlaceNotRising offset) = codes "the place is not above the one before: byte "
before_spot_of (BytesLeft offset) = codes "bytes are left over: byte "

-- what the spot counts, where it is a number of things
abbrev pub after_spot_of : Fault → List ℕ
after_spot_of (HalfWidth r) = []
after_spot_of (ShortList which len) = codes " elements"
after_spot_of NoMembers = []
after_spot_of (TooManyMembers members) = []
after_spot_of (LargeHalf half position) = []
after_spot_of (RepeatedCode position) = []
after_spot_of (LargeDisplacement which index) = []
after_spot_of (NotFound place) = []
after_spot_of (Found place) = []
after_spot_of (PlaceTaken place) = []
after_spot_of (Misplaced slot) = []
after_spot_of (ShortOutput needed) = codes " bytes"
after_spot_of (EndOfBytes len) = codes " bytes"
after_spot_of (MalformedNumber offset) = []
after_spot_of (OutOfRange offset) = []
after_spot_of (NotMade made offset) = []
after_spot_of (PlaceNotRising offset) = []
after_spot_of (BytesLeft offset) = []

-- the refusal in plain words
abbrev pub in_words : Fault → List ℕ
in_words f = before_spot_of f ++ (decimal (spot_of f) ++ after_spot_of f)

-- `refused NUMBER PART SPOT`
abbrev pub as_refused : Fault → List ℕ
as_refused f = codes "refused " ++ (decimal (number_of f) ++ (codes " " ++ (decimal (part_of f) ++ (codes " " ++ decimal (spot_of f)))))
