-- The slots after a build. Assumes nothing.
use Rattle.std.specs.Prelude.{ℕ, true, false, List, [], ◌∷◌, ◌++◌, map, take, drop, slice_set}
use Rattle.slots.specs.declared.Slot.{Slot}
use Rattle.build.specs.declared.Member.{Member}

module _ {C V : Type 0} where
  -- a slot marked empty, which keeps its code and entry
  abbrev pub vacant : Slot C V → Slot C V
  vacant slot = record { full = false; code = slot.code; entry = slot.entry }

  -- the slot that holds a member
  abbrev pub slot_of : Member C V → Slot C V
  slot_of member = record { full = true; code = member.code; entry = member.entry }

  -- the first n slots marked empty
  abbrev pub emptied : ℕ → List (Slot C V) → List (Slot C V)
  emptied n slots = map vacant (take n slots) ++ drop n slots

  -- each member written to the slot at its place
  unfoldable pub filled : List ℕ → List (Member C V) → List (Slot C V) → List (Slot C V)
  filled [] ms slots = slots
  filled (place ∷ places) [] slots = slots
  filled (place ∷ places) (m ∷ ms) slots = filled places ms (slice_set slots place (slot_of m))

  -- the slots of an index of size n: the first n marked empty, and then each member written
  unfoldable pub refilled : ℕ → List ℕ → List (Member C V) → List (Slot C V) → List (Slot C V)
  refilled n places ms slots = filled places ms (emptied n slots)
