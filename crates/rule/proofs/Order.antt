-- The order in which the members are given does not matter. Assumes nothing.
use Rattle.std.proofs.Common.{◌≡◌, ℕ, ◌^◌, ◌<◌, cond, eqb, List, [], ◌∷◌, sym, ap, ◌∙◌}
use lib.Bits.{bit_xor}
use Rattle.std.specs.List.Sorted.{IsPermutation}
use Rattle.std.specs.List.{AllByRecursion as All}
use Rattle.std.proofs.ByRecursion.{all_shuffled}
use Rattle.rule.specs.Places.{shared, Each, Fit, Distinct, first, first_place, second, place, shared_pairs_of}
use Rattle.rule.specs.Round.{of_class, displacement, result}
use Rattle.rule.proofs.Sums.{total_shuffled}
use Rattle.rule.proofs.Pairs.{shared_same}
use Rattle.rule.proofs.Classes.{total_of_class}
use Rattle.rule.proofs.SameSums.{SameSums, displacement-same, distinct-same}

each_is_all : {X : Type 0} (P : X → Type 0) (xs : List X) → Each P xs → All P xs
unfolding Each
each_is_all P [] h = tt
each_is_all P (x ∷ xs) h = (h.0, each_is_all P xs h.1)

all_is_each : {X : Type 0} (P : X → Type 0) (xs : List X) → All P xs → Each P xs
unfolding Each
all_is_each P [] h = tt
all_is_each P (x ∷ xs) h = (h.0, all_is_each P xs h.1)

module _ {X : Type 0} (xs ys : List X) (shuffled : IsPermutation xs ys) where
  pub each_shuffled : (P : X → Type 0) → Each P xs → Each P ys
  each_shuffled P h = all_is_each P ys (all_shuffled P xs ys shuffled (each_is_all P xs h))

  pub shared_shuffled : (key : X → ℕ) → shared key xs ≡ shared key ys
  shared_shuffled key = shared_same key key xs ys (λ f. total_shuffled (λ x. f (key x)) xs ys shuffled)

  -- one round
  module _ (class moved : X → ℕ) where
    class_shuffled : (c : ℕ) → SameSums (of_class class moved c xs) (of_class class moved c ys)
    class_shuffled c f =
        total_of_class class moved f c xs ∙ total_shuffled (λ x. cond (eqb (class x) c) (f (moved x)) 0) xs ys shuffled ∙ sym (total_of_class class moved f c ys)

    pub displacement_shuffled : (r v : ℕ) → displacement class moved r xs v ≡ displacement class moved r ys v
    displacement_shuffled = displacement-same class moved class moved xs ys class_shuffled

    pub result_shuffled : (r : ℕ) (x : X) → result class moved r xs x ≡ result class moved r ys x
    unfolding result
    result_shuffled r x = ap (bit_xor (moved x)) (displacement_shuffled r (class x))

  -- both rounds
  module _ (front back : X → ℕ) where
    pub fit_shuffled : (r : ℕ) → Fit front back r xs → Fit front back r ys
    unfolding Fit
    fit_shuffled r = each_shuffled (λ x. (front x < 2 ^ r) × (back x < 2 ^ r))

    pub distinct_shuffled : Distinct front back xs → Distinct front back ys
    distinct_shuffled = distinct-same front back front back xs ys (class_shuffled front back)

    module _ (r : ℕ) where
      pub first_shuffled : (v : ℕ) → first front back r xs v ≡ first front back r ys v
      unfolding first
      first_shuffled v = displacement_shuffled front back r v

      pub first_place_shuffled : (x : X) → first_place front back r xs x ≡ first_place front back r ys x
      unfolding first_place
      first_place_shuffled x = result_shuffled front back r x

      pub second_shuffled : (v : ℕ) → second front back r xs v ≡ second front back r ys v
      unfolding second
      second_shuffled v =
          ap (λ (class : X → ℕ). displacement class front r xs v) (λ i x. first_place_shuffled x i)
          ∙ displacement_shuffled (first_place front back r ys) front r v

      pub place_shuffled : (x : X) → place front back r xs x ≡ place front back r ys x
      unfolding place
      place_shuffled x =
          ap (λ (class : X → ℕ). result class front r xs x) (λ i x. first_place_shuffled x i)
          ∙ result_shuffled (first_place front back r ys) front r x

      pub shared_pairs_shuffled : shared_pairs_of front back r xs ≡ shared_pairs_of front back r ys
      unfolding shared_pairs_of
      shared_pairs_shuffled =
          ap (λ (key : X → ℕ). shared key xs) (λ i x. first_place_shuffled x i) ∙ shared_shuffled (first_place front back r ys)
