-- The place of a code. Assumes nothing.
use Rattle.std.specs.Prelude.{ℕ, List, length, Ok, Result, bit_xor, nat_le, slice_index}
use Rattle.fault.specs.declared.Displacements.TheVariants.{First, Second}
use Rattle.fault.specs.declared.Fault.{Fault}
use Rattle.fault.specs.declared.Fault.TheVariants.{LargeHalf, LargeDisplacement}
use Rattle.fault.specs.declared.Half.TheVariants.{Front, Back}
use Rattle.lists.specs.Size.{refuse, and_then, checked_size_of}

-- the first place of a code, where the second list is read: its back half xor what the first list has at its front half
abbrev pub first_place_of : List ℕ → ℕ → ℕ → ℕ
first_place_of first front back = bit_xor back (slice_index first front)

-- its place: its front half xor what the second list has at its first place
abbrev pub place_within : List ℕ → List ℕ → ℕ → ℕ → ℕ
place_within first second front back = bit_xor front (slice_index second (first_place_of first front back))

-- the place in an index of size n, whose lists may hold anything
abbrev pub place_in : ℕ → List ℕ → List ℕ → ℕ → ℕ → Result ℕ Fault
place_in n first second front back =
    refuse (nat_le n front) (LargeHalf Front 0) (
    refuse (nat_le n back) (LargeHalf Back 0) (
    refuse (nat_le n (slice_index first front)) (LargeDisplacement First front) (
    refuse (nat_le n (slice_index second (first_place_of first front back))) (LargeDisplacement Second (first_place_of first front back)) (
    Ok (place_within first second front back)))))

-- the same for any r and any lists, slots being the length of the slot list
unfoldable pub place_of : ℕ → List ℕ → List ℕ → ℕ → ℕ → ℕ → Result ℕ Fault
place_of r first second slots front back =
    and_then (checked_size_of r (length first) (length second) slots) (λ n. place_in n first second front back)
