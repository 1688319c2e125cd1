-- What calls on an index answer, one after another, and how they leave the slots. Assumes nothing.
use Rattle.std.specs.Prelude.{◌≡◌, ℕ, List, ◌++◌, length, drop, Ok, Err, Result, nat_lt, fold}
use Rattle.std.specs.List.{scan}
use Rattle.fault.specs.declared.Fault.{Fault}
use Rattle.fault.specs.declared.Fault.TheVariants.{ShortOutput}
use Rattle.lists.specs.Size.{refuse, and_then}
use Rattle.slots.specs.declared.Slot.{Slot}
use Rattle.slots.specs.Calls.{look_up, replacing, removing, inserting, answer_of, slots_after}
use Rattle.build.specs.declared.Member.{Member}
use Rattle.build.specs.Built.{answer, first_list, if_ok, second_list, slot_list}
use Rattle.ledger.specs.declared.Call.{Call}
use Rattle.ledger.specs.declared.Call.TheVariants.{Lookup, Replace, Remove, Insert}
use Rattle.ledger.specs.declared.Answer.{Answer}
use Rattle.ledger.specs.declared.Answer.TheVariants.{LookedUp, Replaced, Removed, Inserted}

-- what comes of a call on the slots, told as an answer to it
abbrev pub told : {V X : Type 0} → (X → Answer V) → Result X Fault → Result (Answer V) Fault
told as_answer (Ok x) = Ok (as_answer x)
told as_answer (Err fault) = Err fault

module _ {C V : Type 0} (front_of back_of : C → ℕ) (r : ℕ) (first second : List ℕ) where
  -- what a call answers
  abbrev pub answer_to : List (Slot C V) → Call C V → Result (Answer V) Fault
  answer_to slots (Lookup code) = told LookedUp (look_up front_of back_of r code first second slots)
  answer_to slots (Replace code entry) = told Replaced (answer_of (replacing front_of back_of r code entry first second slots))
  answer_to slots (Remove code) = told Removed (answer_of (removing front_of back_of r code first second slots))
  answer_to slots (Insert code entry) = told Inserted (answer_of (inserting front_of back_of r code entry first second slots))

  -- the slots after it
  abbrev pub slots_after_call : List (Slot C V) → Call C V → List (Slot C V)
  slots_after_call slots (Lookup code) = slots
  slots_after_call slots (Replace code entry) = slots_after slots (replacing front_of back_of r code entry first second slots)
  slots_after_call slots (Remove code) = slots_after slots (removing front_of back_of r code first second slots)
  slots_after_call slots (Insert code entry) = slots_after slots (inserting front_of back_of r code entry first second slots)

  -- what a list of calls answers, each on the slots that the ones before it left
  unfoldable pub answers_to : List (Slot C V) → List (Call C V) → List (Result (Answer V) Fault)
  answers_to slots calls = scan slots_after_call answer_to slots calls

  -- the slots after all of them
  unfoldable pub slots_after_calls : List (Slot C V) → List (Call C V) → List (Slot C V)
  slots_after_calls slots calls = fold slots_after_call slots calls

-- room for an answer to each call, or the number of answers needed
abbrev pub answers_room : (calls answers : ℕ) → Result (Unit {0}) Fault
answers_room calls answers = refuse (nat_lt answers calls) (ShortOutput calls) (Ok tt)

module _ {C V : Type 0} (front_of back_of : C → ℕ) (r : ℕ) where
  -- the answers after a run: one for each call, and what stood behind them
  abbrev pub answers_after : (first second : List ℕ) → List (Slot C V) → List (Call C V) → List (Result (Answer V) Fault) → List (Result (Answer V) Fault)
  answers_after first second slots calls old = answers_to front_of back_of r first second slots calls ++ drop (length calls) old

  -- the outcome of a run on an index
  pub record Ran (first second : List ℕ) (calls : List (Call C V)) (old_slots : List (Slot C V)) (old_answers : List (Result (Answer V) Fault))
      (a : Result (Unit {0}) Fault) (new_slots : List (Slot C V)) (new_answers : List (Result (Answer V) Fault)) : Type 0 where
    pub value : a ≡ answers_room (length calls) (length old_answers)
    pub slots_are : new_slots ≡ if_ok a (slots_after_calls front_of back_of r first second old_slots calls) old_slots
    pub answers_are : new_answers ≡ if_ok a (answers_after first second old_slots calls old_answers) old_answers

  -- the outcome of a run on an index that is built first
  pub record Served (ms : List (Member C V)) (calls : List (Call C V)) (old_first old_second : List ℕ) (old_slots : List (Slot C V)) (work : ℕ) (old_answers : List (Result (Answer V) Fault))
      (a : Result (ℕ × ℕ) Fault) (new_first new_second : List ℕ) (new_slots : List (Slot C V)) (new_answers : List (Result (Answer V) Fault)) : Type 0 where
    pub value : a ≡ and_then (answers_room (length calls) (length old_answers)) (λ _. answer front_of back_of r ms (length old_first) (length old_second) (length old_slots) work)
    pub first_is : new_first ≡ if_ok a (first_list front_of back_of r ms old_first) old_first
    pub second_is : new_second ≡ if_ok a (second_list front_of back_of r ms old_second) old_second
    pub slots_are :
        new_slots
        ≡ if_ok a (slots_after_calls front_of back_of r (first_list front_of back_of r ms old_first) (second_list front_of back_of r ms old_second) (slot_list front_of back_of r ms old_slots) calls) old_slots
    pub answers_are :
        new_answers
        ≡ if_ok a (answers_after (first_list front_of back_of r ms old_first) (second_list front_of back_of r ms old_second) (slot_list front_of back_of r ms old_slots) calls old_answers) old_answers
