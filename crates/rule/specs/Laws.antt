-- What the rule promises of any index, for contracts to cite. Assumes nothing.
use Rattle.std.specs.Prelude.{◌≡◌, ℕ, ◌-◌, ◌*◌, ◌/◌, ◌^◌, ◌<◌, ◌≤◌, List, length}
use Rattle.std.specs.List.Sorted.{IsPermutation}
use Rattle.rule.specs.Places.{Each, Apart, first, first_place, second, place, shared_pairs_of}

module _ {X : Type 0} (front back : X → ℕ) (r : ℕ) where
  -- every displacement, first place and place is below 2 ^ r
  abbrev pub InRange : List X → Type 0
  InRange xs =
      ((v : ℕ) → first front back r xs v < 2 ^ r) × ((v : ℕ) → second front back r xs v < 2 ^ r)
      × Each (λ x. first_place front back r xs x < 2 ^ r) xs × Each (λ x. place front back r xs x < 2 ^ r) xs

  -- few pairs share a first place, and no two members share a place
  abbrev pub Bounded : List X → Type 0
  Bounded xs =
      (shared_pairs_of front back r xs * 2 ^ r ≤ length xs * (length xs - 1) / 2) × Apart (λ x y. place front back r xs x ≡ place front back r xs y) xs

  -- both lists of displacements, every place and the number of shared pairs are equal
  abbrev pub SameIndex : List X → List X → Type 0
  SameIndex xs ys =
      ((v : ℕ) → first front back r xs v ≡ first front back r ys v) × ((v : ℕ) → second front back r xs v ≡ second front back r ys v)
      × ((x : X) → first_place front back r xs x ≡ first_place front back r ys x) × ((x : X) → place front back r xs x ≡ place front back r ys x)
      × (shared_pairs_of front back r xs ≡ shared_pairs_of front back r ys)

  -- members in any other order give the same index
  abbrev pub OrderFree : List X → Type 0
  OrderFree xs = (ys : List X) → IsPermutation xs ys → SameIndex xs ys
