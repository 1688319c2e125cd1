-- A call with a code depends only on the code's three entries, where the lists are long enough.
use Rattle.std.proofs.Common.{◌≡◌, ℕ, ◌^◌, ◌≤◌, List, length, get_or, Ok, Err, Option, Result, sym, refl, ap, ◌∙◌, arith}
use Rattle.std.specs.List.{slice_get}
use Rattle.std.proofs.lemmas.Bool.Decides.{nat_tests}
use Rattle.fault.specs.declared.Fault.{Fault}
use Rattle.lists.specs.Size.{and_then, size_of, checked_size_of}
use Rattle.lists.specs.Place.{first_place_of, place_within, place_in, place_of}
use Rattle.slots.specs.Calls.{slot_for, look_up, look_up_at, replacing, replace_at, removing, remove_at, inserting, insert_at}
use Rattle.slots.specs.Local.{Long, Agree, Local}
use Rattle.slots.specs.declared.Slot.{Slot}

then_same : {X Y : Type 0} (q : Result X Fault) (f h : X → Result Y Fault) → ((x : X) → q ≡ Ok x → f x ≡ h x) → and_then q f ≡ and_then q h
then_same (Ok x) f h same = same x refl
then_same (Err fault) f h same = refl

-- lists that are long enough are not refused
size-long : (r first second slots : ℕ) → 2 ^ r ≤ first → 2 ^ r ≤ second → 2 ^ r ≤ slots → checked_size_of r first second slots ≡ size_of r
size-long r first second slots a b d = grind (arith, nat_tests)

place-long : {S : Type 0} (r front back : ℕ) (first second : List ℕ) (slots : List S) → Long r first second slots → place_of r first second (length slots) front back ≡ and_then (size_of r) (λ n. place_in n first second front back)
unfolding place_of
place-long r front back first second slots l =
    ap (λ q. and_then q (λ n. place_in n first second front back)) (size-long r (length first) (length second) (length slots) l.first_long l.second_long l.slots_long)

-- the same numbers read give the same place
place_same : (n front back : ℕ) (first second first' second' : List ℕ) → get_or first' front 0 ≡ get_or first front 0 → get_or second' (first_place_of first front back) 0 ≡ get_or second (first_place_of first front back) 0 → place_in n first' second' front back ≡ place_in n first second front back
place_same n front back first second first' second' a b = rw (a, b)

-- an accepted place is the one that the lists give
place_in_is : (n front back : ℕ) (first second : List ℕ) (p : ℕ) → place_in n first second front back ≡ Ok p → place_within first second front back ≡ p
place_in_is n front back first second p e = grind (arith, nat_tests)

after_size : (q : Result ℕ Fault) (front back : ℕ) (first second : List ℕ) (p : ℕ) → and_then q (λ n. place_in n first second front back) ≡ Ok p → place_within first second front back ≡ p
after_size (Ok n) front back first second p e = place_in_is n front back first second p e
after_size (Err fault) front back first second p e = let z : ◌≡◌ {A = ℕ} 0 1 = cc in absurd (omega arith)

place_is : (r slots front back : ℕ) (first second : List ℕ) (p : ℕ) → place_of r first second slots front back ≡ Ok p → place_within first second front back ≡ p
unfolding place_of
place_is r slots front back first second p e = after_size (checked_size_of r (length first) (length second) slots) front back first second p e

module _ {C V : Type 0} (front_of back_of : C → ℕ) (r : ℕ) (code : C) (first second : List ℕ) (slots : List (Slot C V)) where
  -- the places are the same, and so are the slots there
  slot_same : Long r first second slots → (first' second' : List ℕ) (slots' : List (Slot C V)) → Long r first' second' slots' → Agree (front_of code) (back_of code) first second slots first' second' slots' → slot_for front_of back_of r code first' second' slots' ≡ slot_for front_of back_of r code first second slots
  slot_same long first' second' slots' long' agree =
      let front = front_of code in
      let back = back_of code in
      let same : and_then (size_of r) (λ n. place_in n first' second' front back) ≡ and_then (size_of r) (λ n. place_in n first second front back) = then_same (size_of r) _ _ (λ n _. place_same n front back first second first' second' agree.at_front agree.at_first_place) in
      let places : place_of r first' second' (length slots') front back ≡ place_of r first second (length slots) front back = place-long r front back first' second' slots' long' ∙ same ∙ sym (place-long r front back first second slots long) in
      ap (λ q. and_then q (λ place. Ok (place, slice_get slots' place))) places
      ∙ then_same (place_of r first second (length slots) front back) _ _ (λ p e. ap (λ s. Ok (p, s)) (rw (place_is r (length slots) front back first second p e) at agree.at_place))

  -- and so is what a call does with them
  then_local : {X : Type 0} (step : ℕ × Option (Slot C V) → Result X Fault) → Local front_of back_of r code first second slots (λ first' second' slots'. and_then (slot_for front_of back_of r code first' second' slots') step)
  then_local step = record { same = λ long first' second' slots' long' agree. ap (λ q. and_then q step) (slot_same long first' second' slots' long' agree) }

  pub lookup_local : Local front_of back_of r code first second slots (look_up front_of back_of r code)
  lookup_local = then_local (look_up_at front_of back_of code)

  pub replace_local : (entry : V) → Local front_of back_of r code first second slots (replacing front_of back_of r code entry)
  replace_local entry = then_local (replace_at front_of back_of code entry)

  pub remove_local : Local front_of back_of r code first second slots (removing front_of back_of r code)
  remove_local = then_local (remove_at front_of back_of code)

  pub insert_local : (entry : V) → Local front_of back_of r code first second slots (inserting front_of back_of r code entry)
  insert_local entry = then_local (insert_at front_of back_of code entry)
