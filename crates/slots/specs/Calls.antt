-- What each call with a code answers, and which slot it writes. Assumes nothing.
use Rattle.std.specs.Prelude.{◌≡◌, ℕ, Bool, true, false, cond, not, ◌&&◌, List, length, Some, None, Ok, Err, Option, Result, ◌==◌, slice_set}
use Rattle.std.specs.List.{slice_get}
use Rattle.fault.specs.declared.Fault.{Fault}
use Rattle.fault.specs.declared.Fault.TheVariants.{NotFound, Found, PlaceTaken}
use Rattle.lists.specs.Size.{refuse, and_then}
use Rattle.lists.specs.Place.{place_of}
use Rattle.slots.specs.declared.Slot.{Slot}

-- what a change comes to if it is not refused: its answer, and the slot that it writes at a place
pub record Written (C V X : Type 0) : Type 0 where
  pub answer : X
  pub place : ℕ
  pub slot : Slot C V

module _ {C V X : Type 0} where
  abbrev pub written : X → ℕ → Slot C V → Written C V X
  written answer place slot = record { answer = answer; place = place; slot = slot }

  -- what it answers
  abbrev pub answer_of : Result (Written C V X) Fault → Result X Fault
  answer_of (Ok w) = Ok w.answer
  answer_of (Err fault) = Err fault

  -- the slots after it: one of them is written, and none if it is refused
  abbrev pub slots_after : List (Slot C V) → Result (Written C V X) Fault → List (Slot C V)
  slots_after slots (Ok w) = slice_set slots w.place w.slot
  slots_after slots (Err fault) = slots

module _ {C V : Type 0} where
  -- a slot with a code and its entry
  abbrev pub filled : C → V → Slot C V
  filled code entry = record { full = true; code = code; entry = entry }

  -- the slot with another entry
  abbrev pub renewed : V → Slot C V → Slot C V
  renewed entry slot = record { full = slot.full; code = slot.code; entry = entry }

  -- the slot marked empty
  abbrev pub emptied : Slot C V → Slot C V
  emptied slot = record { full = false; code = slot.code; entry = slot.entry }

module _ {C V : Type 0} (front_of back_of : C → ℕ) (code : C) where
  -- a slot holds the code if it is full and the halves are the same
  abbrev pub holds_code : Slot C V → Bool
  holds_code slot = slot.full && (front_of slot.code == front_of code && back_of slot.code == back_of code)

  -- what each call does with the slot at the code's place (there is a slot at every place)
  abbrev pub look_up_at : ℕ × Option (Slot C V) → Result (Option (ℕ × V)) Fault
  look_up_at (place, None) = Ok None
  look_up_at (place, Some slot) = cond (holds_code slot) (Ok (Some (place, slot.entry))) (Ok None)

  abbrev pub replace_at : V → ℕ × Option (Slot C V) → Result (Written C V V) Fault
  replace_at entry (place, None) = Err (NotFound place)
  replace_at entry (place, Some slot) = refuse (not (holds_code slot)) (NotFound place) (Ok (written slot.entry place (renewed entry slot)))

  abbrev pub remove_at : ℕ × Option (Slot C V) → Result (Written C V V) Fault
  remove_at (place, None) = Err (NotFound place)
  remove_at (place, Some slot) = refuse (not (holds_code slot)) (NotFound place) (Ok (written slot.entry place (emptied slot)))

  abbrev pub insert_at : V → ℕ × Option (Slot C V) → Result (Written C V ℕ) Fault
  insert_at entry (place, None) = Err (PlaceTaken place)
  insert_at entry (place, Some slot) =
      refuse (holds_code slot) (Found place) (
      refuse slot.full (PlaceTaken place) (
      Ok (written place place (filled code entry))))

module _ {C V : Type 0} (front_of back_of : C → ℕ) (r : ℕ) (code : C) where
  -- the code's place, and the slot that is there
  abbrev pub slot_for : List ℕ → List ℕ → List (Slot C V) → Result (ℕ × Option (Slot C V)) Fault
  slot_for first second slots =
      and_then (place_of r first second (length slots) (front_of code) (back_of code)) (λ place. Ok (place, slice_get slots place))

  -- the calls, over the lists of displacements and the slots
  abbrev pub look_up : List ℕ → List ℕ → List (Slot C V) → Result (Option (ℕ × V)) Fault
  look_up first second slots = and_then (slot_for first second slots) (look_up_at front_of back_of code)

  abbrev pub replacing : V → List ℕ → List ℕ → List (Slot C V) → Result (Written C V V) Fault
  replacing entry first second slots = and_then (slot_for first second slots) (replace_at front_of back_of code entry)

  abbrev pub removing : List ℕ → List ℕ → List (Slot C V) → Result (Written C V V) Fault
  removing first second slots = and_then (slot_for first second slots) (remove_at front_of back_of code)

  abbrev pub inserting : V → List ℕ → List ℕ → List (Slot C V) → Result (Written C V ℕ) Fault
  inserting entry first second slots = and_then (slot_for first second slots) (insert_at front_of back_of code entry)

-- a change: its answer, and the slots before and after it
pub record Changed {C V X : Type 0} (before after : List (Slot C V)) (answer : Result X Fault) (outcome : Result (Written C V X) Fault) : Type 0 where
  pub value : answer ≡ answer_of outcome
  pub slots : after ≡ slots_after before outcome
