-- Both rounds over the members of an index, each with a front half and a back half. Assumes nothing.
use Rattle.std.specs.Prelude.{◌≡◌, ℕ, ◌+◌, ◌^◌, ◌<◌, cond, List, [], ◌∷◌, ◌==◌}
use Rattle.rule.specs.Round.{displacement, result}

module _ {X : Type 0} where
  -- how many members have the key k
  unfoldable pub with_key : (X → ℕ) → ℕ → List X → ℕ
  with_key key k [] = 0
  with_key key k (x ∷ xs) = cond (key x == k) 1 0 + with_key key k xs

  -- the pairs of members with equal keys, each two counted once
  unfoldable pub shared : (X → ℕ) → List X → ℕ
  shared key [] = 0
  shared key (x ∷ xs) = with_key key (key x) xs + shared key xs

  -- something holds of each member
  unfoldable pub Each : (X → Type 0) → List X → Type 0
  Each P [] = Unit {0}
  Each P (x ∷ xs) = P x × Each P xs

  -- no two members are related by R
  unfoldable pub Apart : (X → X → Type 0) → List X → Type 0
  Apart R [] = Unit {0}
  Apart R (x ∷ xs) = Each (λ y. R x y → ⊥) xs × Apart R xs

module _ {X : Type 0} (front back : X → ℕ) where
  -- the first list at v
  unfoldable pub first : ℕ → List X → ℕ → ℕ
  first r xs v = displacement front back r xs v

  unfoldable pub first_place : ℕ → List X → X → ℕ
  first_place r xs x = result front back r xs x

  -- the second list at v
  unfoldable pub second : ℕ → List X → ℕ → ℕ
  second r xs v = displacement (first_place r xs) front r xs v

  unfoldable pub place : ℕ → List X → X → ℕ
  place r xs x = result (first_place r xs) front r xs x

  -- the pairs of members with one first place
  unfoldable pub shared_pairs_of : ℕ → List X → ℕ
  shared_pairs_of r xs = shared (first_place r xs) xs

  -- both halves of every member fit r, and no two members have both halves equal
  unfoldable pub Fit : ℕ → List X → Type 0
  Fit r xs = Each (λ x. (front x < 2 ^ r) × (back x < 2 ^ r)) xs

  unfoldable pub Distinct : List X → Type 0
  Distinct xs = Apart (λ x y. (front x ≡ front y) × (back x ≡ back y)) xs
