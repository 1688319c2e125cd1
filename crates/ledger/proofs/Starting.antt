-- The slots of a build mirror its members. Assumes nothing.
use Rattle.std.proofs.Common.{◌≡◌, ℕ, zero, suc, ◌+◌, ◌^◌, ◌<◌, ◌≤◌, Bool, true, false, cond, ◌&&◌, ◌⊎◌, List, [], ◌∷◌, map, length, get_or, take, drop, set, Some, None, Option, sym, refl, ap, ◌∙◌, subst, inl, inr, ⊎_elim, not-suc-le-zero, arith}
use lib.Bits.{bit_xor}
use Rattle.std.specs.List.{slice_get, range_with_len, ContainsAt as Has}
use Rattle.std.proofs.lemmas.List.FromFn.{length-map-range_with_len, get_or-map-range_with_len}
use Rattle.std.proofs.lemmas.List.{get_or_append_left, length-append, length-map, length-take-le, take_at}
use Rattle.std.proofs.lemmas.Option.{slice_get-get_or}
use Rattle.std.proofs.lemmas.List.Sums.{sum_by-cons}
use Rattle.std.proofs.lemmas.Bool.{cases_Bool, cond-true, cond-false}
use Rattle.rule.specs.Places.{Each, Apart, Fit, first, second, place, first_place}
use Rattle.rule.specs.Round.{result}
use Rattle.rule.specs.Laws.{Bounded}
use Rattle.rule.proofs.Each.{each_with}
use Rattle.rule.proofs.Rounds.{first_lt, second_lt, first_place_lt, places_fit}
use Rattle.slots.specs.declared.Slot.{Slot}
use Rattle.build.specs.declared.Member.{Member}
use Rattle.build.specs.Built.{half, first_list, second_list, slot_list}
use Rattle.build.specs.Filled.{vacant, slot_of, emptied, filled, refilled}
use Rattle.build.specs.Laws.{Meets}
use Rattle.build.proofs.Written.{length-emptied, emptied_here, length-slots, slots_other, slots_here, some_or_none}
use Rattle.ledger.specs.Ledger.{same_code, place_for, entry_in}
use Rattle.ledger.specs.Law.{full_count, AtHome, Sound}
use Rattle.ledger.proofs.Elements.{nth_some, nth_set_other, count_set}
use Rattle.ledger.proofs.Entries.{entry_here, entry_behind, same_halves, none-same}
use Rattle.ledger.proofs.Placing.{place_fits}
use Rattle.ledger.proofs.Mirror.{hold, Mirrors}
use Rattle.ledger.proofs.Stepping.{each_both}

-- ---- how many slots are full
module _ {C V : Type 0} where
  vacant-count : (slots : List (Slot C V)) → full_count (map vacant slots) ≡ 0
  vacant-count [] = refl
  vacant-count (slot ∷ slots) =
      let rest = vacant-count slots in
      let more = sum_by-cons (λ (s : Slot C V). cond s.full 1 0) (vacant slot) (map vacant slots) in
      omega arith

  emptied-count : (n : ℕ) (slots : List (Slot C V)) → n ≤ length slots → full_count (take n (emptied n slots)) ≡ 0
  emptied-count n slots long =
      ap full_count (take_at (map vacant (take n slots)) (drop n slots) n (length-map (take n slots) vacant ∙ length-take-le n slots long)) ∙ vacant-count (take n slots)

  -- members written to empty slots, each to its own
  module _ (at : Member C V → ℕ) (n : ℕ) where
    filled-count : (ms : List (Member C V)) (slots : List (Slot C V)) → Apart (λ x y. at x ≡ at y) ms → Each (λ m. at m < n) ms
        → Each (λ m. (slot : Slot C V) × (slice_get slots (at m) ≡ Some slot) × (slot.full ≡ false)) ms
        → full_count (take n (filled (map at ms) ms slots)) ≡ full_count (take n slots) + length ms
    unfolding filled Apart Each
    filled-count [] slots apart within empty = omega arith
    filled-count (m ∷ ms) slots apart within empty =
        let one = count_set (λ (s : Slot C V). s.full) n slots (at m) empty.0.0 (slot_of m) within.0 empty.0.1 in
        let mark : cond {A = ℕ} empty.0.0.full 1 0 ≡ 0 = ap (λ (b : Bool). cond {A = ℕ} b 1 0) empty.0.2 in
        let kept : Each (λ y. (slot : Slot C V) × (slice_get (set slots (at m) (slot_of m)) (at y) ≡ Some slot) × (slot.full ≡ false)) ms = each_with (λ y both. (both.0.0, nth_set_other slots (at m) (at y) (slot_of m) (λ same. both.1 (sym same)) ∙ both.0.1, both.0.2)) ms (each_both _ _ ms empty.1 apart.0) in
        let rest = filled-count ms (set slots (at m) (slot_of m)) apart.1 within.1 kept in
        omega arith

-- a code is in the ledger as a member, or is not there
entry_cases : {C V : Type 0} (front_of back_of : C → ℕ) (ms : List (Member C V)) (code : C)
    → ((m : Member C V) × Has ms m × (same_code front_of back_of m.code code ≡ true) × (entry_in front_of back_of ms code ≡ Some m.entry)) ⊎ (entry_in front_of back_of ms code ≡ None)
unfolding entry_in
entry_cases front_of back_of [] code = inr refl
entry_cases {C} {V} front_of back_of (m ∷ ms) code =
    ⊎_elim {C = ((x : Member C V) × Has (m ∷ ms) x × (same_code front_of back_of x.code code ≡ true) × (entry_in front_of back_of (m ∷ ms) code ≡ Some x.entry)) ⊎ (entry_in front_of back_of (m ∷ ms) code ≡ None)}
    (λ same. inl (m, (0, omega arith, λ d. refl), same, entry_here front_of back_of m ms code same))
    (λ ne.
    ⊎_elim {C = ((x : Member C V) × Has (m ∷ ms) x × (same_code front_of back_of x.code code ≡ true) × (entry_in front_of back_of (m ∷ ms) code ≡ Some x.entry)) ⊎ (entry_in front_of back_of (m ∷ ms) code ≡ None)}
    (λ found. inl (found.0, (suc found.1.0, omega (arith, found.1.1), found.1.2), found.2, entry_behind front_of back_of m ms code ne ∙ found.3))
    (λ none. inr (entry_behind front_of back_of m ms code ne ∙ none))
    (entry_cases front_of back_of ms code))
    (cases_Bool (same_code front_of back_of m.code code))

-- what holds of each member holds of one that is there
each_has : {X : Type 0} (P : X → Type 0) (xs : List X) (x : X) → Each P xs → Has xs x → P x
unfolding Each
each_has P [] x all has = absurd (not-suc-le-zero has.1)
each_has P (y ∷ xs) x all (zero, h, e) = subst P (e x) all.0
each_has P (y ∷ xs) x all (suc k, h, e) = each_has P xs x all.1 (k, omega (arith, h), e)

-- how the rule finds a place
first_place_is : {X : Type 0} (front back : X → ℕ) (r : ℕ) (xs : List X) (x : X) → first_place front back r xs x ≡ bit_xor (back x) (first front back r xs (front x))
unfolding first_place first result
first_place_is front back r xs x = refl

place_is : {X : Type 0} (front back : X → ℕ) (r : ℕ) (xs : List X) (x : X) → place front back r xs x ≡ bit_xor (front x) (second front back r xs (bit_xor (back x) (first front back r xs (front x))))
unfolding place second first_place first result
place_is front back r xs x = refl

module _ {C V : Type 0} (front_of back_of : C → ℕ) (law : (x y : C) → front_of x ≡ front_of y → back_of x ≡ back_of y → x ≡ y) (r : ℕ) (ms : List (Member C V)) (old_first old_second : List ℕ) (old_slots : List (Slot C V)) (work : ℕ)
    (meets : Meets front_of back_of r ms (length old_first) (length old_second) (length old_slots) work) (bounded : Bounded (half front_of) (half back_of) r ms) where
  abbrev F : List ℕ
  F = first_list front_of back_of r ms old_first

  abbrev S : List ℕ
  S = second_list front_of back_of r ms old_second

  abbrev T : List (Slot C V)
  T = slot_list front_of back_of r ms old_slots

  abbrev at : Member C V → ℕ
  at = place (half front_of) (half back_of) r ms

  -- ---- the lists hold the displacements, so a member's place is the one that the rule gives
  first-at : (v : ℕ) → v < 2 ^ r → get_or F v 0 ≡ first (half front_of) (half back_of) r ms v
  unfolding first_list
  first-at v h =
      let f = first (half front_of) (half back_of) r ms in
      get_or_append_left (map f (range_with_len 0 (2 ^ r))) (drop (2 ^ r) old_first) 0 v (omega (arith, length-map-range_with_len f 0 (2 ^ r))) ∙ get_or-map-range_with_len f 0 (2 ^ r) v v 0 h (omega arith)

  second_at : (v : ℕ) → v < 2 ^ r → get_or S v 0 ≡ second (half front_of) (half back_of) r ms v
  unfolding second_list
  second_at v h =
      let f = second (half front_of) (half back_of) r ms in
      get_or_append_left (map f (range_with_len 0 (2 ^ r))) (drop (2 ^ r) old_second) 0 v (omega (arith, length-map-range_with_len f 0 (2 ^ r))) ∙ get_or-map-range_with_len f 0 (2 ^ r) v v 0 h (omega arith)

  place_at : (m : Member C V) → half front_of m < 2 ^ r → half back_of m < 2 ^ r → place_for front_of back_of F S m.code ≡ at m
  place_at m f b =
      let back_moved = first_place_is (half front_of) (half back_of) r ms m in
      let there = first_place_lt (half front_of) (half back_of) r ms m b in
      ap (λ (d : ℕ). bit_xor (half front_of m) (get_or S (bit_xor (half back_of m) d) 0)) (first-at (half front_of m) f)
      ∙ ap (bit_xor (half front_of m)) (second_at (bit_xor (half back_of m) (first (half front_of) (half back_of) r ms (half front_of m))) (omega arith))
      ∙ sym (place_is (half front_of) (half back_of) r ms m)

  -- ---- each member is in the slot at its place
  place_within_lem : (m : Member C V) → Has ms m → at m < 2 ^ r
  place_within_lem m has = each_has (λ x. at x < 2 ^ r) ms m (places_fit (half front_of) (half back_of) r ms meets.fit) has

  member_fits : (m : Member C V) → Has ms m → (half front_of m < 2 ^ r) × (half back_of m < 2 ^ r)
  unfolding Fit
  member_fits m has = each_has (λ x. (half front_of x < 2 ^ r) × (half back_of x < 2 ^ r)) ms m meets.fit has

  slot_here : (m : Member C V) → Has ms m → slice_get T (at m) ≡ Some (slot_of m)
  slot_here m has =
      let within = place_within_lem m has in
      let long = length-slots front_of back_of r ms old_slots meets.slots_long in
      slice_get-get_or T (at m) (slot_of m) (omega (arith, meets.slots_long))
      ∙ ap Some (slots_here front_of back_of r ms old_slots meets.slots_long meets.fit has.0 m (slot_of m) bounded.1 has.1 (sym (has.2 m)))

  -- ---- the other slots of the index are empty
  slot_other : (p : ℕ) → p < 2 ^ r → Each (λ m. at m ≡ p → ⊥) ms → (slot : Slot C V) → slice_get T p ≡ Some slot → slot.full ≡ false
  slot_other p h none slot is =
      let long = length-slots front_of back_of r ms old_slots meets.slots_long in
      let there : Some (vacant (get_or old_slots p slot)) ≡ Some slot = sym (slice_get-get_or T p slot (omega (arith, meets.slots_long)) ∙ ap Some (slots_other front_of back_of r ms old_slots meets.slots_long p slot h none)) ∙ is in
      let same : vacant (get_or old_slots p slot) ≡ slot = cc in
      ap (λ (s : Slot C V). s.full) (sym same)

  home_at : (p : ℕ) (slot : Slot C V) → p < 2 ^ r → slice_get T p ≡ Some slot → slot.full ≡ true → AtHome front_of back_of r F S p slot
  home_at p slot h is full =
      ⊎_elim {C = AtHome front_of back_of r F S p slot}
      (λ found.
      let m = found.0 in
      let fits = member_fits m found.1 in
      let there : Some (slot_of m) ≡ Some slot = sym (slot_here m found.1) ∙ ap (slice_get T) found.2 ∙ is in
      let same : slot_of m ≡ slot = cc in
      subst (AtHome front_of back_of r F S p) same (record { front_fits = fits.0; back_fits = fits.1; place_is = place_at m fits.0 fits.1 ∙ found.2 }))
      (λ none. cc (slot_other p h none slot is))
      (some_or_none at p ms)

  built_sound : Sound front_of back_of r F S T
  unfolding first_list second_list
  built_sound =
      let long = length-slots front_of back_of r ms old_slots meets.slots_long in
      let f = first (half front_of) (half back_of) r ms in
      let s = second (half front_of) (half back_of) r ms in
      record {
        low = meets.low;
        high = meets.high;
        first_long = omega (arith, length-append (map f (range_with_len 0 (2 ^ r))) (drop (2 ^ r) old_first), length-map-range_with_len f 0 (2 ^ r));
        second_long = omega (arith, length-append (map s (range_with_len 0 (2 ^ r))) (drop (2 ^ r) old_second), length-map-range_with_len s 0 (2 ^ r));
        slots_long = omega (arith, meets.slots_long);
        first_below = λ v h. omega (arith, first-at v h, first_lt (half front_of) (half back_of) r ms v);
        second_below = λ v h. omega (arith, second_at v h, second_lt (half front_of) (half back_of) r ms v);
        at_home = home_at;
      }

  -- ---- what a code's slot holds is what the members have for the code
  same_at : (code : C) → front_of code < 2 ^ r → back_of code < 2 ^ r → hold front_of back_of (slice_get T (place_for front_of back_of F S code)) code ≡ entry_in front_of back_of ms code
  same_at code f b =
      ⊎_elim {C = hold front_of back_of (slice_get T (place_for front_of back_of F S code)) code ≡ entry_in front_of back_of ms code}
      (λ found.
      let m = found.0 in
      let halves = same_halves front_of back_of m.code code found.2 in
      let fits = member_fits m found.1 in
      ap (λ (s : Option (Slot C V)). hold front_of back_of s code) (ap (slice_get T) (sym (ap (place_for front_of back_of F S) (law m.code code halves.0 halves.1)) ∙ place_at m fits.0 fits.1) ∙ slot_here m found.1)
      ∙ cond-true _ _ _ found.2
      ∙ sym found.3)
      (λ none. missing none ∙ sym none)
      (entry_cases front_of back_of ms code)
    where
      missing : entry_in front_of back_of ms code ≡ None → hold front_of back_of (slice_get T (place_for front_of back_of F S code)) code ≡ None
      missing none =
          let within = place_fits built_sound (front_of code) (back_of code) f b in
          let there = nth_some T (place_for front_of back_of F S code) (omega (arith, built_sound.slots_long)) in
          ⊎_elim {C = hold front_of back_of (slice_get T (place_for front_of back_of F S code)) code ≡ None}
          (λ found.
          let m = found.0 in
          ap (λ (s : Option (Slot C V)). hold front_of back_of s code) (sym (ap (slice_get T) found.2) ∙ slot_here m found.1)
          ∙ cond-false _ _ _ (each_has (λ y. same_code front_of back_of y.code code ≡ false) ms m (none-same front_of back_of ms code none) found.1))
          (λ other.
          ap (λ (s : Option (Slot C V)). hold front_of back_of s code) there.1
          ∙ ap (λ (b : Bool). cond (b && same_code front_of back_of there.0.code code) (Some there.0.entry) None) (slot_other (place_for front_of back_of F S code) within other there.0 there.1))
          (some_or_none at (place_for front_of back_of F S code) ms)

  -- ---- as many slots are full as there are members
  number_at : full_count (take (2 ^ r) T) ≡ length ms
  unfolding slot_list refilled
  number_at =
      let start = emptied (2 ^ r) old_slots in
      let within = places_fit (half front_of) (half back_of) r ms meets.fit in
      let empty = emptied-count (2 ^ r) old_slots meets.slots_long in
      let all =
      filled-count at (2 ^ r) ms start bounded.1 within
      (each_with (λ m h. empty-at (at m) h) ms within) in
      omega arith
    where
      empty-at : (p : ℕ) → p < 2 ^ r → (slot : Slot C V) × (slice_get (emptied (2 ^ r) old_slots) p ≡ Some slot) × (slot.full ≡ false)
      empty-at p h =
          let d = (nth_some old_slots p (omega (arith, meets.slots_long))).0 in
          let long = length-emptied (2 ^ r) old_slots meets.slots_long in
          (vacant (get_or old_slots p d), slice_get-get_or (emptied (2 ^ r) old_slots) p d (omega (arith, meets.slots_long)) ∙ ap Some (emptied_here (2 ^ r) old_slots p d h meets.slots_long), refl)

  pub built_mirrors : Mirrors front_of back_of r F S T ms
  built_mirrors = record { sound = built_sound; fit = meets.fit; distinct = meets.distinct; same = same_at; number = number_at }
