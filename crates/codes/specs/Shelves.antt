-- Shelf numbers: each number is the number of a shelf.
use Rattle.std.specs.Prelude.{ℕ, Some, Option}
use Rattle.codes.specs.declared.shelves.Shelf.{Shelf}

abbrev pub shelf_number : Shelf → ℕ
shelf_number s = s.0

abbrev pub shelf_of : ℕ → Option Shelf
shelf_of n = Some (record { 0 = n })
