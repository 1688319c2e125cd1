-- What holds of each member, and of each two. Assumes nothing.
use Rattle.std.proofs.Common.{List, [], ◌∷◌, ◌++◌, map}
use Rattle.rule.specs.Places.{Each, Apart}

module _ {X : Type 0} where
  -- what follows from a fact on each member holds of each
  pub each_with : {P Q : X → Type 0} → ((x : X) → P x → Q x) → (xs : List X) → Each P xs → Each Q xs
  unfolding Each
  each_with f [] h = tt
  each_with f (x ∷ xs) h = (f x h.0, each_with f xs h.1)

  pub each_all : {P : X → Type 0} → ((x : X) → P x) → (xs : List X) → Each P xs
  unfolding Each
  each_all f [] = tt
  each_all f (x ∷ xs) = (f x, each_all f xs)

  pub each_append : (P : X → Type 0) (xs ys : List X) → Each P xs → Each P ys → Each P (xs ++ ys)
  unfolding Each
  each_append P [] ys h l = l
  each_append P (x ∷ xs) ys h l = (h.0, each_append P xs ys h.1 l)

  -- no two members are in a narrower relation
  pub apart_with : {R S : X → X → Type 0} → ((x y : X) → S x y → R x y) → (xs : List X) → Apart R xs → Apart S xs
  unfolding Apart
  apart_with f [] h = tt
  apart_with f (x ∷ xs) h = (each_with (λ y k s. k (f x y s)) xs h.0, apart_with f xs h.1)

  pub apart_append : (R : X → X → Type 0) (xs ys : List X) → Apart R xs → Apart R ys → Each (λ x. Each (λ y. R x y → ⊥) ys) xs → Apart R (xs ++ ys)
  unfolding Apart Each
  apart_append R [] ys h l m = l
  apart_append R (x ∷ xs) ys h l m = (each_append (λ y. R x y → ⊥) xs ys h.0 m.0, apart_append R xs ys h.1 l m.1)

module _ {X Y : Type 0} (h : X → Y) (P : Y → Type 0) where
  pub each_map : (xs : List X) → Each (λ x. P (h x)) xs → Each P (map h xs)
  unfolding Each
  each_map [] l = tt
  each_map (x ∷ xs) l = (l.0, each_map xs l.1)

  pub map_each : (xs : List X) → Each P (map h xs) → Each (λ x. P (h x)) xs
  unfolding Each
  map_each [] l = tt
  map_each (x ∷ xs) l = (l.0, map_each xs l.1)
