-- How large an index is, and which lengths its lists must have. Assumes nothing.
use Rattle.std.specs.Prelude.{◌≡◌, ℕ, ◌*◌, ◌^◌, ◌≤◌, Bool, cond, ◌||◌, Ok, Err, Result, nat_lt}
use Rattle.fault.specs.declared.Fault.{Fault}
use Rattle.fault.specs.declared.Fault.TheVariants.{HalfWidth, ShortList}
use Rattle.fault.specs.declared.List.TheVariants.{First, Second, Slots, Work}

-- the fault where the test holds, else the rest
abbrev pub refuse : {X : Type 0} → Bool → Fault → Result X Fault → Result X Fault
refuse test fault rest = cond test (Err fault) rest

-- what follows an accepted answer; a refusal stays
abbrev pub and_then : {X Y : Type 0} → Result X Fault → (X → Result Y Fault) → Result Y Fault
and_then (Ok x) next = next x
and_then (Err fault) next = Err fault

-- the number of places of an index of half width r
abbrev pub size_of : ℕ → Result ℕ Fault
size_of r = refuse (nat_lt r 4 || nat_lt 16 r) (HalfWidth r) (Ok (2 ^ r))

-- the same, if lists of these lengths have an element for each place
abbrev pub checked_size_of : ℕ → ℕ → ℕ → ℕ → Result ℕ Fault
checked_size_of r first second slots =
    and_then (size_of r) (λ n.
    refuse (nat_lt first n) (ShortList First first) (
    refuse (nat_lt second n) (ShortList Second second) (
    refuse (nat_lt slots n) (ShortList Slots slots) (
    Ok n))))

-- the words of the work list for each place
abbrev pub work_per_place : ℕ
work_per_place = 8

-- the same, if the work list is long enough too
abbrev pub checked_size_with_work_of : ℕ → ℕ → ℕ → ℕ → ℕ → Result ℕ Fault
checked_size_with_work_of r first second slots work =
    and_then (checked_size_of r first second slots) (λ n.
    refuse (nat_lt work (work_per_place * n)) (ShortList Work work) (
    Ok n))

-- what an accepted size tells
pub record Accepted (r first second slots n : ℕ) : Type 0 where
  pub size : n ≡ 2 ^ r
  pub low : 4 ≤ r
  pub high : r ≤ 16
  pub first_long : n ≤ first
  pub second_long : n ≤ second
  pub slots_long : n ≤ slots
