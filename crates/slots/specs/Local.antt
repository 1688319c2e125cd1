-- Which parts of an index a call with a code depends on. Assumes nothing.
use Rattle.std.specs.Prelude.{◌≡◌, ℕ, ◌^◌, ◌≤◌, List, length, slice_index, slice_index_or}
use Rattle.std.specs.List.{slice_get}
use Rattle.lists.specs.Place.{first_place_of, place_within}

-- lists with an element for each place of an index of half width r
pub record Long {S : Type 0} (r : ℕ) (first second : List ℕ) (slots : List S) : Type 0 where
  pub first_long : 2 ^ r ≤ length first
  pub second_long : 2 ^ r ≤ length second
  pub slots_long : 2 ^ r ≤ length slots

-- two indexes with the same three entries of a code with these halves: the first list's at the front half,
-- the second list's at the first place, and the slot at the place
pub record Agree {S : Type 0} (front back : ℕ) (first second : List ℕ) (slots : List S) (first' second' : List ℕ) (slots' : List S) : Type 0 where
  pub at_front : slice_index_or first' front 0 ≡ slice_index first front
  pub at_first_place : slice_index_or second' (first_place_of first front back) 0 ≡ slice_index second (first_place_of first front back)
  pub at_place : slice_get slots' (place_within first second front back) ≡ slice_get slots (place_within first second front back)

-- every other index of the same r that agrees in the code's three entries, both being long enough, gives the call the same answer or fault
pub record Local {C S A : Type 0} (front_of back_of : C → ℕ) (r : ℕ) (code : C) (first second : List ℕ) (slots : List S) (call : List ℕ → List ℕ → List S → A) : Type 0 where
  pub same : Long r first second slots → (first' second' : List ℕ) (slots' : List S) → Long r first' second' slots' → Agree (front_of code) (back_of code) first second slots first' second' slots' → call first' second' slots' ≡ call first second slots
