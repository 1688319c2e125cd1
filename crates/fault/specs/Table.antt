-- What each refusal tells: its number, layer, part and spot. Assumes nothing.
use Rattle.std.specs.Prelude.{◌≡◌, ℕ, Bool, ◌==◌, Decides}
use Rattle.std.specs.Ordering.{eq_of_both, on}
use Rattle.fault.specs.declared.Displacements.{Displacements}
use Rattle.fault.specs.declared.Displacements.TheVariants as displacements
use Rattle.fault.specs.declared.Fault.{Fault}
use Rattle.fault.specs.declared.Fault.TheVariants.{HalfWidth, ShortList, NoMembers, TooManyMembers, LargeHalf, RepeatedCode, LargeDisplacement, NotFound, Found, PlaceTaken, Misplaced, ShortOutput, EndOfBytes, MalformedNumber, OutOfRange, NotMade, PlaceNotRising, BytesLeft}
use Rattle.fault.specs.declared.Half.{Half}
use Rattle.fault.specs.declared.Half.TheVariants.{Front, Back}
use Rattle.fault.specs.declared.Layer.{Layer}
use Rattle.fault.specs.declared.Layer.TheVariants as layer
use Rattle.fault.specs.declared.List.{List}
use Rattle.fault.specs.declared.List.TheVariants as list
use Rattle.fault.specs.declared.Made.{Made}
use Rattle.fault.specs.declared.Made.TheVariants.{Code, Entry}

abbrev pub number_of : Fault → ℕ
number_of (HalfWidth r) = 1
number_of (ShortList which len) = 2
number_of NoMembers = 3
number_of (TooManyMembers members) = 4
number_of (LargeHalf half position) = 5
number_of (RepeatedCode position) = 6
number_of (LargeDisplacement which index) = 7
number_of (NotFound place) = 8
number_of (Found place) = 9
number_of (PlaceTaken place) = 10
number_of (Misplaced slot) = 11
number_of (ShortOutput needed) = 12
number_of (EndOfBytes len) = 13
number_of (MalformedNumber offset) = 14
number_of (OutOfRange offset) = 15
number_of (NotMade made offset) = 16
number_of (PlaceNotRising offset) = 17
number_of (BytesLeft offset) = 18

abbrev pub layer_of : Fault → Layer
layer_of (HalfWidth r) = layer.Lists
layer_of (ShortList which len) = layer.Lists
layer_of NoMembers = layer.Build
layer_of (TooManyMembers members) = layer.Build
layer_of (LargeHalf half position) = layer.Kinds
layer_of (RepeatedCode position) = layer.Build
layer_of (LargeDisplacement which index) = layer.Lists
layer_of (NotFound place) = layer.Slots
layer_of (Found place) = layer.Slots
layer_of (PlaceTaken place) = layer.Slots
layer_of (Misplaced slot) = layer.File
layer_of (ShortOutput needed) = layer.File
layer_of (EndOfBytes len) = layer.Groups
layer_of (MalformedNumber offset) = layer.Groups
layer_of (OutOfRange offset) = layer.File
layer_of (NotMade made offset) = layer.Kinds
layer_of (PlaceNotRising offset) = layer.File
layer_of (BytesLeft offset) = layer.File

-- the lists by number
abbrev pub list_part : List → ℕ
list_part list.First = 1
list_part list.Second = 2
list_part list.Slots = 3
list_part list.Work = 4

abbrev pub displacements_part : Displacements → ℕ
displacements_part displacements.First = 1
displacements_part displacements.Second = 2

abbrev pub half_part : Half → ℕ
half_part Front = 1
half_part Back = 2

abbrev pub made_part : Made → ℕ
made_part Code = 1
made_part Entry = 2

-- what was refused within the call: a list, a half, a code or an entry; else 0
abbrev pub part_of : Fault → ℕ
part_of (HalfWidth r) = 0
part_of (ShortList which len) = list_part which
part_of NoMembers = 0
part_of (TooManyMembers members) = 0
part_of (LargeHalf half position) = half_part half
part_of (RepeatedCode position) = 0
part_of (LargeDisplacement which index) = displacements_part which
part_of (NotFound place) = 0
part_of (Found place) = 0
part_of (PlaceTaken place) = 0
part_of (Misplaced slot) = 0
part_of (ShortOutput needed) = 0
part_of (EndOfBytes len) = 0
part_of (MalformedNumber offset) = 0
part_of (OutOfRange offset) = 0
part_of (NotMade made offset) = made_part made
part_of (PlaceNotRising offset) = 0
part_of (BytesLeft offset) = 0

-- where it was refused: the number that the case holds
abbrev pub spot_of : Fault → ℕ
spot_of (HalfWidth r) = r
spot_of (ShortList which len) = len
spot_of NoMembers = 0
spot_of (TooManyMembers members) = members
spot_of (LargeHalf half position) = position
spot_of (RepeatedCode position) = position
spot_of (LargeDisplacement which index) = index
spot_of (NotFound place) = place
spot_of (Found place) = place
spot_of (PlaceTaken place) = place
spot_of (Misplaced slot) = slot
spot_of (ShortOutput needed) = needed
spot_of (EndOfBytes len) = len
spot_of (MalformedNumber offset) = offset
spot_of (OutOfRange offset) = offset
spot_of (NotMade made offset) = offset
spot_of (PlaceNotRising offset) = offset
spot_of (BytesLeft offset) = offset

-- the layer's letter, as a character's code
abbrev pub letter_of : Layer → ℕ
letter_of layer.Groups = 71
letter_of layer.Kinds = 75
letter_of layer.Lists = 76
letter_of layer.Build = 66
letter_of layer.Slots = 83
letter_of layer.File = 70

-- two refusals have one number, one part and one spot
abbrev pub has_same_numbers : Fault → Fault → Bool
has_same_numbers = eq_of_both (on number_of ◌==◌) (eq_of_both (on part_of ◌==◌) (on spot_of ◌==◌))

-- number, part and spot tell a refusal whole: they are the same in no two
abbrev pub NumbersTell : Type 0
NumbersTell = (x y : Fault) → Decides (has_same_numbers x y) (x ≡ y)
