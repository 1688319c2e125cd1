-- What a build gives: its answer, and its lists after. Assumes nothing.
use Rattle.std.specs.Prelude.{◌≡◌, ℕ, ◌^◌, List, ◌++◌, map, length, drop, Ok, Err, Result}
use Rattle.std.specs.List.{range_with_len}
use Rattle.fault.specs.declared.Fault.{Fault}
use Rattle.lists.specs.Size.{and_then}
use Rattle.rule.specs.Places.{first, second, place, shared_pairs_of}
use Rattle.slots.specs.declared.Slot.{Slot}
use Rattle.build.specs.declared.Member.{Member}
use Rattle.build.specs.Checked.{counts_checked, codes_checked}
use Rattle.build.specs.Filled.{refilled}

-- a list that an accepted call sets, and a refused one leaves
abbrev pub if_ok : {X Y : Type 0} → Result X Fault → Y → Y → Y
if_ok (Ok x) new old = new
if_ok (Err fault) new old = old

-- a half of a member is that of its code
abbrev pub half : {C V : Type 0} → (C → ℕ) → Member C V → ℕ
half of member = of member.code

module _ {C V : Type 0} (front back : C → ℕ) (r : ℕ) (ms : List (Member C V)) where
  -- the first list: the displacements of the rule, and what stood behind them
  unfoldable pub first_list : List ℕ → List ℕ
  first_list old = map (first (half front) (half back) r ms) (range_with_len 0 (2 ^ r)) ++ drop (2 ^ r) old

  unfoldable pub second_list : List ℕ → List ℕ
  second_list old = map (second (half front) (half back) r ms) (range_with_len 0 (2 ^ r)) ++ drop (2 ^ r) old

  -- the slots: the first 2 ^ r marked empty, and then each member at its place
  unfoldable pub slot_list : List (Slot C V) → List (Slot C V)
  slot_list old = refilled (2 ^ r) (map (place (half front) (half back) r ms) ms) ms old

  -- the number of members and the shared pairs, or the refusal, for lists of these lengths
  unfoldable pub answer : (first second slots work : ℕ) → Result (ℕ × ℕ) Fault
  answer first_length second_length slots_length work_length =
      and_then (counts_checked r (length ms) first_length second_length slots_length work_length) (λ n.
      and_then (codes_checked (half front) (half back) n ms) (λ _.
      Ok (length ms, shared_pairs_of (half front) (half back) r ms)))

  -- the outcome of a build over these lists and a work list of this length
  pub record Built (old_first old_second : List ℕ) (old_slots : List (Slot C V)) (work : ℕ)
      (a : Result (ℕ × ℕ) Fault) (new_first new_second : List ℕ) (new_slots : List (Slot C V)) : Type 0 where
    pub answers : a ≡ answer (length old_first) (length old_second) (length old_slots) work
    pub first_is : new_first ≡ if_ok a (first_list old_first) old_first
    pub second_is : new_second ≡ if_ok a (second_list old_second) old_second
    pub slots_are : new_slots ≡ if_ok a (slot_list old_slots) old_slots
