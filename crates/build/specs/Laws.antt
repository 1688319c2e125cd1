-- What a build promises beyond its outcome. Assumes nothing.
use Rattle.std.specs.Prelude.{◌≡◌, ℕ, ◌*◌, ◌^◌, ◌≤◌, List, length, Ok, Err, Result}
use Rattle.std.specs.List.Sorted.{IsPermutation}
use Rattle.fault.specs.Table.{number_of}
use Rattle.fault.specs.declared.Fault.{Fault}
use Rattle.lists.specs.Size.{work_per_place}
use Rattle.rule.specs.Places.{Fit, Distinct}
use Rattle.rule.specs.Laws.{Bounded}
use Rattle.slots.specs.declared.Slot.{Slot}
use Rattle.build.specs.declared.Member.{Member}
use Rattle.build.specs.Checked.{places_per_member}
use Rattle.build.specs.Built.{half, Built}

-- two answers are the same; of refusals, which may name different positions, the number is
abbrev pub SameAnswer : Result (ℕ × ℕ) Fault → Result (ℕ × ℕ) Fault → Type 0
SameAnswer (Ok x) (Ok y) = x ≡ y
SameAnswer (Ok x) (Err g) = ⊥
SameAnswer (Err f) (Ok y) = ⊥
SameAnswer (Err f) (Err g) = number_of f ≡ number_of g

module _ {C V : Type 0} (front back : C → ℕ) (r : ℕ) (ms : List (Member C V)) where
  -- what a build asks for, given the lengths of its lists
  pub record Meets (first second slots work : ℕ) : Type 0 where
    pub low : 4 ≤ r
    pub high : r ≤ 16
    pub first_long : 2 ^ r ≤ first
    pub second_long : 2 ^ r ≤ second
    pub slots_long : 2 ^ r ≤ slots
    pub work_long : work_per_place * 2 ^ r ≤ work
    pub some : 1 ≤ length ms
    pub few : places_per_member * length ms ≤ 2 ^ r
    pub fit : Fit (half front) (half back) r ms
    pub distinct : Distinct (half front) (half back) ms

  -- a build is accepted exactly if that is met; then few pairs share a first place, and no two members share a place
  abbrev pub Lawful : (first second slots work : ℕ) → Result (ℕ × ℕ) Fault → Type 0
  Lawful first second slots work (Ok counts) = Meets first second slots work × Bounded (half front) (half back) r ms
  Lawful first second slots work (Err fault) = Meets first second slots work → ⊥

  -- members in any other order, over the same lists, give the same answer, lists and slots
  abbrev pub OrderFree : (first second : List ℕ) (slots : List (Slot C V)) (work : ℕ) → Result (ℕ × ℕ) Fault → (new_first new_second : List ℕ) → List (Slot C V) → Type 0
  OrderFree first second slots work a new_first new_second new_slots =
      (others : List (Member C V)) → IsPermutation ms others
      → (b : Result (ℕ × ℕ) Fault) (other_first other_second : List ℕ) (other_slots : List (Slot C V)) → Built front back r others first second slots work b other_first other_second other_slots
      → SameAnswer a b × (new_first ≡ other_first) × (new_second ≡ other_second) × (new_slots ≡ other_slots)
