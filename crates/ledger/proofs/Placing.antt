-- Where a sound index has a code's slot. Assumes nothing.
use Rattle.std.proofs.Common.{◌≡◌, ℕ, ◌^◌, ◌<◌, ◌≤◌, Bool, true, false, leb, List, length, get_or, Some, Ok, Err, Option, Result, sym, refl, ap, ◌∙◌, subst, arith}
use lib.Bits.{xor_lt}
use Rattle.std.specs.List.{slice_get}
use Rattle.std.proofs.lemmas.Bool.Decides.{nat_tests}
use Rattle.std.proofs.lemmas.Bool.{lt-leb, leb-true, leb-false, cond-false, cond_both}
use Rattle.fault.specs.declared.Fault.{Fault}
use Rattle.fault.specs.declared.Fault.TheVariants as fault
use Rattle.fault.specs.declared.Half.TheVariants.{Front, Back}
use Rattle.lists.specs.Size.{refuse, and_then, checked_size_of}
use Rattle.lists.specs.Place.{first_place_of, place_in, place_of, place_within}
use Rattle.slots.specs.declared.Slot.{Slot}
use Rattle.slots.specs.Calls.{slot_for}
use Rattle.ledger.specs.Ledger.{place_for}
use Rattle.ledger.specs.Law.{Sound}
use Rattle.ledger.proofs.Elements.{nth_some}

-- a refusal, and what follows where there is none
refuse-same : {X : Type 0} (b : Bool) (f : Fault) (x y : Result X Fault) → (b ≡ false → x ≡ y) → refuse b f x ≡ refuse b f y
refuse-same true f x y same = refl
refuse-same false f x y same = same refl

pub then_refuse : {X Y : Type 0} (b : Bool) (f : Fault) (x : Result X Fault) (next : X → Result Y Fault) → and_then (refuse b f x) next ≡ refuse b f (and_then x next)
then_refuse true f x next = refl
then_refuse false f x next = refl

-- lists that are long enough are accepted
size_is : (r first second slots : ℕ) → 4 ≤ r → r ≤ 16 → 2 ^ r ≤ first → 2 ^ r ≤ second → 2 ^ r ≤ slots → checked_size_of r first second slots ≡ Ok (2 ^ r)
size_is r first second slots low high a b d = grind (arith, nat_tests)

module _ {C V : Type 0} {front_of back_of : C → ℕ} {r : ℕ} {first second : List ℕ} {slots : List (Slot C V)} (sound : Sound front_of back_of r first second slots) where
  -- the first place of a code that fits, and its place
  pub first_place_fits : (front back : ℕ) → front < 2 ^ r → back < 2 ^ r → first_place_of first front back < 2 ^ r
  first_place_fits front back f b = xor_lt r back (get_or first front 0) b (sound.first_below front f)

  pub place_fits : (front back : ℕ) → front < 2 ^ r → back < 2 ^ r → place_within first second front back < 2 ^ r
  place_fits front back f b = xor_lt r front _ f (sound.second_below _ (first_place_fits front back f b))

  place_in_is : (front back : ℕ)
      → place_in (2 ^ r) first second front back
      ≡ refuse (leb (2 ^ r) front) (fault.LargeHalf Front 0) (refuse (leb (2 ^ r) back) (fault.LargeHalf Back 0) (Ok (place_within first second front back)))
  place_in_is front back =
      refuse-same (leb (2 ^ r) front) (fault.LargeHalf Front 0) _ _ (λ f.
      refuse-same (leb (2 ^ r) back) (fault.LargeHalf Back 0) _ _ (λ b.
      let front_fits = leb-false (2 ^ r) front f in
      let back_fits = leb-false (2 ^ r) back b in
      cond-false (leb (2 ^ r) (get_or first front 0)) _ _ (lt-leb (2 ^ r) (get_or first front 0) (sound.first_below front front_fits))
      ∙ cond-false (leb (2 ^ r) (get_or second (first_place_of first front back) 0)) _ _ (lt-leb (2 ^ r) (get_or second (first_place_of first front back) 0) (sound.second_below _ (first_place_fits front back front_fits back_fits)))))

  -- the slot of a code: none if a half is too large
  pub slot_for_lem : (code : C)
      → slot_for front_of back_of r code first second slots
      ≡ refuse (leb (2 ^ r) (front_of code)) (fault.LargeHalf Front 0) (
      refuse (leb (2 ^ r) (back_of code)) (fault.LargeHalf Back 0) (
      Ok (place_for front_of back_of first second code, slice_get slots (place_for front_of back_of first second code))))
  unfolding place_of
  slot_for_lem code =
      ap (λ (q : Result ℕ Fault). and_then (and_then q (λ n. place_in n first second (front_of code) (back_of code))) (λ place. Ok (place, slice_get slots place)))
      (size_is r (length first) (length second) (length slots) sound.low sound.high sound.first_long sound.second_long sound.slots_long)
      ∙ ap (λ (q : Result ℕ Fault). and_then q (λ place. Ok (place, slice_get slots place))) (place_in_is (front_of code) (back_of code))
      ∙ then_refuse (leb (2 ^ r) (front_of code)) (fault.LargeHalf Front 0) _ (λ place. Ok (place, slice_get slots place))
      ∙ ap (refuse (leb (2 ^ r) (front_of code)) (fault.LargeHalf Front 0)) (then_refuse (leb (2 ^ r) (back_of code)) (fault.LargeHalf Back 0) _ (λ place. Ok (place, slice_get slots place)))

  -- a code's slot is refused for a large half, or is there
  pub by_slot : (code : C) (P : Result (ℕ × Option (Slot C V)) Fault → Type 0)
      → (2 ^ r ≤ front_of code → P (Err (fault.LargeHalf Front 0)))
      → (front_of code < 2 ^ r → 2 ^ r ≤ back_of code → P (Err (fault.LargeHalf Back 0)))
      → ((slot : Slot C V) → front_of code < 2 ^ r → back_of code < 2 ^ r → slice_get slots (place_for front_of back_of first second code) ≡ Some slot → P (Ok (place_for front_of back_of first second code, Some slot)))
      → P (slot_for front_of back_of r code first second slots)
  by_slot code P front back fits =
      subst P (sym (slot_for_lem code))
      (cond_both (leb (2 ^ r) (front_of code)) (Err (fault.LargeHalf Front 0)) _ P
      (λ e. front (leb-true _ _ e))
      (λ e.
      let f = leb-false _ _ e in
      cond_both (leb (2 ^ r) (back_of code)) (Err (fault.LargeHalf Back 0)) _ P
      (λ k. back f (leb-true _ _ k))
      (λ k.
      let b = leb-false _ _ k in
      let within = place_fits (front_of code) (back_of code) f b in
      let there = nth_some slots (place_for front_of back_of first second code) (omega (arith, sound.slots_long)) in
      subst (λ (s : Option (Slot C V)). P (Ok (place_for front_of back_of first second code, s))) (sym there.1) (fits there.0 f b there.1))))
