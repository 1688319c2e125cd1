-- The ledger law: what an index answers, over every list of calls, is what the ledger asks for. Assumes nothing.
use Rattle.std.specs.Prelude.{◌≡◌, ℕ, ◌+◌, ◌^◌, ◌<◌, ◌≤◌, true, List, length, take, Some, None, Ok, IfOk, count_by, Option, Result, slice_index}
use Rattle.std.specs.List.{slice_get}
use Rattle.fault.specs.declared.Fault.{Fault}
use Rattle.rule.specs.Places.{Apart, Distinct}
use Rattle.slots.specs.declared.Slot.{Slot}
use Rattle.slots.specs.Calls.{look_up}
use Rattle.build.specs.declared.Member.{Member}
use Rattle.build.specs.Built.{half, slot_list}
use Rattle.ledger.specs.declared.Call.{Call}
use Rattle.ledger.specs.declared.Answer.{Answer}
use Rattle.ledger.specs.Run.{slots_after_calls}
use Rattle.ledger.specs.Ledger.{entry_in, place_for, if_fits, asked, ledger_after, inserts, removes}

-- how many slots are full
abbrev pub full_count : {C V : Type 0} → List (Slot C V) → ℕ
full_count slots = count_by (λ slot. slot.full) slots

-- absent, or refused if a half is 2^r or more
abbrev pub not_found : {C V : Type 0} (front_of back_of : C → ℕ) (r : ℕ) → C → Result (Option (ℕ × V)) Fault
not_found front_of back_of r code =
    if_fits front_of back_of r code (Ok None)

module _ {C V : Type 0} (front_of back_of : C → ℕ) (r : ℕ) (first second : List ℕ) where
  -- a full slot that holds a code which fits r, and whose place it is
  pub record AtHome (place : ℕ) (slot : Slot C V) : Type 0 where
    pub front_fits : front_of slot.code < 2 ^ r
    pub back_fits : back_of slot.code < 2 ^ r
    pub place_is : place_for front_of back_of first second slot.code ≡ place

  -- an index that calls may go on from: long enough, every displacement below 2^r, every full slot with a code at home there
  pub record Sound (slots : List (Slot C V)) : Type 0 where
    pub low : 4 ≤ r
    pub high : r ≤ 16
    pub first_long : 2 ^ r ≤ length first
    pub second_long : 2 ^ r ≤ length second
    pub slots_long : 2 ^ r ≤ length slots
    pub first_below : (v : ℕ) → v < 2 ^ r → slice_index first v < 2 ^ r
    pub second_below : (v : ℕ) → v < 2 ^ r → slice_index second v < 2 ^ r
    pub at_home : (place : ℕ) (slot : Slot C V) → place < 2 ^ r → slice_get slots place ≡ Some slot → slot.full ≡ true → AtHome place slot

  -- exactly the ledger's codes are found, with its entries, each alone in its place
  pub record Matches (slots : List (Slot C V)) (ledger : List (Member C V)) : Type 0 where
    pub distinct : Distinct (half front_of) (half back_of) ledger
    pub found : (code : C) (entry : V) → entry_in front_of back_of ledger code ≡ Some entry → look_up front_of back_of r code first second slots ≡ Ok (Some (place_for front_of back_of first second code, entry))
    pub others : (code : C) → entry_in front_of back_of ledger code ≡ None → look_up front_of back_of r code first second slots ≡ not_found front_of back_of r code
    pub alone : Apart (λ x y. place_for front_of back_of first second x.code ≡ place_for front_of back_of first second y.code) ledger
    pub number : full_count (take (2 ^ r) slots) ≡ length ledger

  -- the slots and the ledger after the first k of the calls
  module _ (slots : List (Slot C V)) (ledger : List (Member C V)) (calls : List (Call C V)) (answers : List (Result (Answer V) Fault)) where
    abbrev pub slots_at : ℕ → List (Slot C V)
    slots_at k = slots_after_calls front_of back_of r first second slots (take k calls)

    abbrev pub ledger_at : ℕ → List (Member C V)
    ledger_at k = ledger_after front_of back_of ledger (take k calls) answers

    -- the law of a run from slots that match a ledger, of which these are the answers
    pub record LedgerLaw : Type 0 where
      -- after every call the index matches the ledger, and calls may go on
      pub matches : (k : ℕ) → k ≤ length calls → Matches (slots_at k) (ledger_at k)
      pub sound : (k : ℕ) → k ≤ length calls → Sound (slots_at k)
      -- every answer is the one that the ledger before its call asks for
      pub answered : (k : ℕ) (call : Call C V) → slice_get calls k ≡ Some call → slice_get answers k ≡ Some (asked front_of back_of r first second (ledger_at k) call)
      -- the codes in the ledger: those at the start and the accepted inserts, less the accepted removes
      pub balance : length (ledger_at (length calls)) + removes calls answers ≡ length ledger + inserts calls answers

  -- what a run keeps: the law over its calls, and an index that matches the ledger after them and that calls may go on from
  pub record Kept (slots : List (Slot C V)) (ledger : List (Member C V)) (calls : List (Call C V)) (answers : List (Result (Answer V) Fault)) (new_slots : List (Slot C V)) : Type 0 where
    pub law : LedgerLaw slots ledger calls answers
    pub matches_after : Matches new_slots (ledger_after front_of back_of ledger calls answers)
    pub sound_after : Sound new_slots

  -- the law of a run from an index that matches some ledger, if the run is accepted
  abbrev pub RunLaw : List (Slot C V) → List (Call C V) → Result (Unit {0}) Fault → List (Slot C V) → List (Result (Answer V) Fault) → Type 0
  RunLaw slots calls a new_slots answers = IfOk a (λ _. (ledger : List (Member C V)) → Sound slots → Matches slots ledger → Kept slots ledger calls answers new_slots)

-- the law of a run from a build, whose members are the ledger at the start, if it is accepted
abbrev pub ServeLaw : {C V : Type 0} (front_of back_of : C → ℕ) (r : ℕ) (ms : List (Member C V)) (calls : List (Call C V)) (old_slots : List (Slot C V)) (a : Result (ℕ × ℕ) Fault) (first second : List ℕ) (new_slots : List (Slot C V)) (answers : List (Result (Answer V) Fault)) → Type 0
ServeLaw front_of back_of r ms calls old_slots a first second new_slots answers = IfOk a (λ _. Kept front_of back_of r first second (slot_list front_of back_of r ms old_slots) ms calls answers new_slots)
