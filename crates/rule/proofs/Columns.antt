-- The rule reads members through their class and moved number alone, so they may be replaced by columns of these numbers. Assumes nothing.
use Rattle.std.proofs.Common.{◌≡◌, ℕ, ◌+◌, ◌^◌, ◌<◌, cond, eqb, List, [], ◌∷◌, ◌++◌, map, sym, refl, ap, ◌∙◌, ap₂}
use lib.Bits.{bit_xor}
use Rattle.rule.specs.Choose.{choose}
use Rattle.rule.specs.Places.{with_key, shared, Each, Fit, Distinct, first, first_place, second, place, shared_pairs_of}
use Rattle.rule.specs.Round.{behind, of_class, order, taken, displacement, result}
use Rattle.rule.proofs.Each.{each_map, map_each}
use Rattle.rule.proofs.Sums.{total}
use Rattle.rule.proofs.SameSums.{order_same, distinct-same}

-- ---- members whose classes hold equal lists of moved numbers

module _ {X Y : Type 0} (class moved : X → ℕ) (class' moved' : Y → ℕ) (xs : List X) (ys : List Y)
    (same : (c : ℕ) → of_class class moved c xs ≡ of_class class' moved' c ys) where
  pub order-equal : (n : ℕ) → order class moved n xs ≡ order class' moved' n ys
  order-equal = order_same class moved class' moved' xs ys (λ c f. ap (total f) (same c))

  pub taken-equal : (r : ℕ) (cs : List ℕ) → taken class moved r xs cs ≡ taken class' moved' r ys cs
  unfolding taken
  taken-equal r [] = refl
  taken-equal r (c ∷ cs) = ap₂ (λ (ms zs : List ℕ). map (λ m. bit_xor m (choose r ms zs)) ms ++ zs) (same c) (taken-equal r cs)

  pub displacement-equal : (r v : ℕ) → displacement class moved r xs v ≡ displacement class' moved' r ys v
  unfolding displacement
  displacement-equal r v =
      ap₂ (choose r) (same v) (ap (λ (cs : List ℕ). taken class moved r xs (behind v cs)) (order-equal (2 ^ r)) ∙ taken-equal r (behind v (order class' moved' (2 ^ r) ys)))

  pub result-equal : (r : ℕ) (x : X) (y : Y) → class x ≡ class' y → moved x ≡ moved' y → result class moved r xs x ≡ result class' moved' r ys y
  unfolding result
  result-equal r x y e f = ap₂ bit_xor f (ap (displacement class moved r xs) e ∙ displacement-equal r (class' y))

-- ---- other functions with the same values on the members

module _ {X : Type 0} (class moved class' moved' : X → ℕ) where
  pub of_class_like : (c : ℕ) (xs : List X) → Each (λ x. class x ≡ class' x) xs → Each (λ x. moved x ≡ moved' x) xs
      → of_class class moved c xs ≡ of_class class' moved' c xs
  unfolding of_class Each
  of_class_like c [] h l = refl
  of_class_like c (x ∷ xs) h l =
      let rest = of_class_like c xs h.1 l.1 in
      ap₂ (λ (v m : ℕ). cond (eqb v c) (m ∷ of_class class moved c xs) (of_class class moved c xs)) h.0 l.0
      ∙ ap (λ (ms : List ℕ). cond (eqb (class' x) c) (moved' x ∷ ms) ms) rest

  pub displacement_like : (r : ℕ) (xs : List X) → Each (λ x. class x ≡ class' x) xs → Each (λ x. moved x ≡ moved' x) xs
      → (v : ℕ) → displacement class moved r xs v ≡ displacement class' moved' r xs v
  displacement_like r xs h l = displacement-equal class moved class' moved' xs xs (λ c. of_class_like c xs h l) r

module _ {X : Type 0} (key key' : X → ℕ) where
  pub with_key_like : (k : ℕ) (xs : List X) → Each (λ x. key x ≡ key' x) xs → with_key key k xs ≡ with_key key' k xs
  unfolding with_key Each
  with_key_like k [] h = refl
  with_key_like k (x ∷ xs) h = ap₂ (λ (v n : ℕ). cond (eqb v k) 1 0 + n) h.0 (with_key_like k xs h.1)

  pub shared_like : (xs : List X) → Each (λ x. key x ≡ key' x) xs → shared key xs ≡ shared key' xs
  unfolding shared Each
  shared_like [] h = refl
  shared_like (x ∷ xs) h = ap₂ ◌+◌ (ap (λ (k : ℕ). with_key key k xs) h.0 ∙ with_key_like (key' x) xs h.1) (shared_like xs h.1)

-- ---- members made from others by a function h

module _ {X Y : Type 0} (h : X → Y) where
  pub with_key-map : (key : Y → ℕ) (k : ℕ) (xs : List X) → with_key key k (map h xs) ≡ with_key (λ x. key (h x)) k xs
  unfolding with_key
  with_key-map key k [] = refl
  with_key-map key k (x ∷ xs) = ap (λ (n : ℕ). cond (eqb (key (h x)) k) 1 0 + n) (with_key-map key k xs)

  pub shared-map : (key : Y → ℕ) (xs : List X) → shared key (map h xs) ≡ shared (λ x. key (h x)) xs
  unfolding shared
  shared-map key [] = refl
  shared-map key (x ∷ xs) = ap₂ ◌+◌ (with_key-map key (key (h x)) xs) (shared-map key xs)

  -- one round
  module _ (class moved : Y → ℕ) where
    pub of_class-map : (c : ℕ) (xs : List X) → of_class class moved c (map h xs) ≡ of_class (λ x. class (h x)) (λ x. moved (h x)) c xs
    unfolding of_class
    of_class-map c [] = refl
    of_class-map c (x ∷ xs) = ap (λ (ms : List ℕ). cond (eqb (class (h x)) c) (moved (h x) ∷ ms) ms) (of_class-map c xs)

    pub order-map : (n : ℕ) (xs : List X) → order class moved n (map h xs) ≡ order (λ x. class (h x)) (λ x. moved (h x)) n xs
    order-map n xs = order-equal class moved (λ x. class (h x)) (λ x. moved (h x)) (map h xs) xs (λ c. of_class-map c xs) n

    pub taken-map : (r : ℕ) (xs : List X) (cs : List ℕ) → taken class moved r (map h xs) cs ≡ taken (λ x. class (h x)) (λ x. moved (h x)) r xs cs
    taken-map r xs cs = taken-equal class moved (λ x. class (h x)) (λ x. moved (h x)) (map h xs) xs (λ c. of_class-map c xs) r cs

    pub displacement-map : (r : ℕ) (xs : List X) (v : ℕ) → displacement class moved r (map h xs) v ≡ displacement (λ x. class (h x)) (λ x. moved (h x)) r xs v
    displacement-map r xs v = displacement-equal class moved (λ x. class (h x)) (λ x. moved (h x)) (map h xs) xs (λ c. of_class-map c xs) r v

    pub result-map : (r : ℕ) (xs : List X) (x : X) → result class moved r (map h xs) (h x) ≡ result (λ x. class (h x)) (λ x. moved (h x)) r xs x
    result-map r xs x = result-equal class moved (λ x. class (h x)) (λ x. moved (h x)) (map h xs) xs (λ c. of_class-map c xs) r (h x) x refl refl

  -- both rounds
  module _ (front back : Y → ℕ) (r : ℕ) (xs : List X) where
    pub first-map : (v : ℕ) → first front back r (map h xs) v ≡ first (λ x. front (h x)) (λ x. back (h x)) r xs v
    unfolding first
    first-map v = displacement-map front back r xs v

    pub first_place-map : (x : X) → first_place front back r (map h xs) (h x) ≡ first_place (λ x. front (h x)) (λ x. back (h x)) r xs x
    unfolding first_place
    first_place-map x = result-map front back r xs x

    pub second-map : (v : ℕ) → second front back r (map h xs) v ≡ second (λ x. front (h x)) (λ x. back (h x)) r xs v
    unfolding second
    second-map v =
        displacement-map (first_place front back r (map h xs)) front r xs v
        ∙ ap (λ (class : X → ℕ). displacement class (λ x. front (h x)) r xs v) (λ i x. first_place-map x i)

    pub place_map : (x : X) → place front back r (map h xs) (h x) ≡ place (λ x. front (h x)) (λ x. back (h x)) r xs x
    unfolding place
    place_map x =
        result-map (first_place front back r (map h xs)) front r xs x
        ∙ ap (λ (class : X → ℕ). result class (λ x. front (h x)) r xs x) (λ i x. first_place-map x i)

    pub shared_pairs-map : shared_pairs_of front back r (map h xs) ≡ shared_pairs_of (λ x. front (h x)) (λ x. back (h x)) r xs
    unfolding shared_pairs_of
    shared_pairs-map =
        shared-map (first_place front back r (map h xs)) xs ∙ ap (λ (key : X → ℕ). shared key xs) (λ i x. first_place-map x i)

    pub fit-map : Fit (λ x. front (h x)) (λ x. back (h x)) r xs → Fit front back r (map h xs)
    unfolding Fit
    fit-map = each_map h (λ y. (front y < 2 ^ r) × (back y < 2 ^ r)) xs

    pub map-fit : Fit front back r (map h xs) → Fit (λ x. front (h x)) (λ x. back (h x)) r xs
    unfolding Fit
    map-fit = map_each h (λ y. (front y < 2 ^ r) × (back y < 2 ^ r)) xs

  module _ (front back : Y → ℕ) (xs : List X) where
    pub distinct-map : Distinct (λ x. front (h x)) (λ x. back (h x)) xs → Distinct front back (map h xs)
    distinct-map = distinct-same (λ x. front (h x)) (λ x. back (h x)) front back xs (map h xs) (λ c f. ap (total f) (sym (of_class-map front back c xs)))

    pub map-distinct : Distinct front back (map h xs) → Distinct (λ x. front (h x)) (λ x. back (h x)) xs
    map-distinct = distinct-same front back (λ x. front (h x)) (λ x. back (h x)) (map h xs) xs (λ c f. ap (total f) (of_class-map front back c xs))
