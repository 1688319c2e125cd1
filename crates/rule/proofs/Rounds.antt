-- Both rounds: every place is in range, few members share a first place, and no two share a place. Assumes nothing.
use Rattle.std.proofs.Common.{◌≡◌, ℕ, ◌-◌, ◌*◌, ◌/◌, ◌^◌, ◌<◌, ◌≤◌, List, length, sym, ap, ◌∙◌, arith, pow_pos, pow_mono}
use lib.Bits.{bit_xor, xor_lt}
use Rattle.rule.specs.Places.{shared, Each, Apart, Fit, Distinct, first, first_place, second, place, shared_pairs_of}
use Rattle.rule.specs.Round.{displacement, result}
use Rattle.rule.proofs.Each.{each_with, apart_with}
use Rattle.rule.proofs.Pairs.{none-shared}
use Rattle.rule.proofs.Halving.{choose_lt}
use Rattle.rule.proofs.Xor.{xor_cancel}
use Rattle.rule.proofs.Bound.{round_bound, round_bound_double}
use Rattle.rule.proofs.Separation.{round_apart}
use Rattle.rule.proofs.SmallClasses.{small_class}

module _ {X : Type 0} (class moved : X → ℕ) (r : ℕ) (xs : List X) where
  pub displacement_lt : (v : ℕ) → displacement class moved r xs v < 2 ^ r
  unfolding displacement
  displacement_lt v = choose_lt r _ _

  pub result_lt : (x : X) → moved x < 2 ^ r → result class moved r xs x < 2 ^ r
  unfolding result
  result_lt x h = xor_lt r (moved x) (displacement class moved r xs (class x)) h (displacement_lt (class x))

module _ {X : Type 0} (front back : X → ℕ) (r : ℕ) (xs : List X) where
  pub first_lt : (v : ℕ) → first front back r xs v < 2 ^ r
  unfolding first
  first_lt v = displacement_lt front back r xs v

  pub second_lt : (v : ℕ) → second front back r xs v < 2 ^ r
  unfolding second
  second_lt v = displacement_lt (first_place front back r xs) front r xs v

  pub first_place_lt : (x : X) → back x < 2 ^ r → first_place front back r xs x < 2 ^ r
  unfolding first_place
  first_place_lt x h = result_lt front back r xs x h

  pub place_lt : (x : X) → front x < 2 ^ r → place front back r xs x < 2 ^ r
  unfolding place
  place_lt x h = result_lt (first_place front back r xs) front r xs x h

  -- members with one front half and one first place have one back half
  first_place_back : (x y : X) → (first_place front back r xs x ≡ first_place front back r xs y) × (front x ≡ front y) → (front x ≡ front y) × (back x ≡ back y)
  unfolding first_place result
  first_place_back x y h =
      (h.1, xor_cancel (back x) (back y) (displacement front back r xs (front y)) (ap (λ (v : ℕ). bit_xor (back x) (displacement front back r xs v)) (sym h.1) ∙ h.0))

  module _ (fit : Fit front back r xs) where
    -- first places and places are in range
    pub first_places-fit : Each (λ x. first_place front back r xs x < 2 ^ r) xs
    unfolding Fit
    first_places-fit = each_with (λ x h. first_place_lt x h.1) xs fit

    pub places_fit : Each (λ x. place front back r xs x < 2 ^ r) xs
    unfolding Fit
    places_fit = each_with (λ x h. place_lt x h.0) xs fit

    second-fit : Fit (first_place front back r xs) front r xs
    unfolding Fit
    second-fit = each_with (λ x h. (first_place_lt x h.1, h.0)) xs fit

  -- so the second round's members are distinct as well
  second-distinct : Distinct front back xs → Distinct (first_place front back r xs) front xs
  unfolding Distinct
  second-distinct = apart_with first_place_back xs

  module _ (fit : Fit front back r xs) (distinct : Distinct front back xs) where
    -- the collision bound
    pub pairs_bound : shared_pairs_of front back r xs * 2 ^ r ≤ length xs * (length xs - 1) / 2
    unfolding shared_pairs_of first_place
    pairs_bound = round_bound front back r xs fit distinct

    module _ (width : r ≤ 16) (room : 5 * length xs ≤ 2 ^ r) where
      -- no two members share a place
      pub places_unshared : shared (place front back r xs) xs ≡ 0
      unfolding place first_place
      places_unshared =
          round_apart (first_place front back r xs) front r xs (second-fit fit) (second-distinct distinct) (omega arith)
          (λ s t h. small_class (shared (first_place front back r xs) xs) (length xs) (2 ^ r) (pow_pos r)
          (round_bound_double front back r xs fit distinct) room (pow_mono width) s t h)

      pub places_apart : Apart (λ x y. place front back r xs x ≡ place front back r xs y) xs
      places_apart = none-shared (place front back r xs) xs places_unshared
