-- The pairs that share a result in one round are the pairs left when its classes were taken. Assumes nothing.
use Rattle.std.proofs.Common.{◌≡◌, ℕ, ◌+◌, ◌^◌, ◌<◌, cond, eqb, List, [], ◌∷◌, ◌++◌, map, sym, refl, ap, ◌∙◌, ap₂, mod-eq_of_lt, arith}
use lib.Bits.{bit_xor, xor_lt}
use Rattle.rule.specs.Choose.{agree, alike, count, choose}
use Rattle.rule.specs.Places.{with_key, shared, Each, Fit, Distinct}
use Rattle.rule.specs.Round.{behind, of_class, order, taken, displacement, result}
use Rattle.rule.proofs.Each.{each_with, each_append, each_map}
use Rattle.rule.proofs.Sums.{total, total_append, total_map}
use Rattle.rule.proofs.Xor.{xor-eqb}
use Rattle.rule.proofs.Pairs.{eqb_sym, shared-none, shared_same}
use Rattle.rule.proofs.Halving.{choose_lt}
use Rattle.rule.proofs.Classes.{each-of_class, class_apart, Follows, order_follows, total_classes}

-- ---- one class, whose moved numbers ms get the displacement d over the results ys

with_key-append : (k : ℕ) (zs ys : List ℕ) → with_key (λ y. y) k (zs ++ ys) ≡ with_key (λ y. y) k zs + with_key (λ y. y) k ys
unfolding with_key
with_key-append k [] ys = omega arith
with_key-append k (z ∷ zs) ys = omega (arith, with_key-append k zs ys)

with_key-xor : (d m : ℕ) (ms : List ℕ) → with_key (λ y. y) (bit_xor m d) (map (λ m. bit_xor m d) ms) ≡ with_key (λ y. y) m ms
unfolding with_key
with_key-xor d m [] = refl
with_key-xor d m (k ∷ ms) = rw (xor-eqb k m d) (ap (λ (n : ℕ). cond (eqb k m) 1 0 + n) (with_key-xor d m ms))

with_key-alike : (r a : ℕ) (ys : List ℕ) → a < 2 ^ r → Each (λ y. y < 2 ^ r) ys → with_key (λ y. y) a ys ≡ alike r a ys
unfolding with_key alike agree Each
with_key-alike r a [] ha hs = refl
with_key-alike r a (y ∷ ys) ha hs =
    rw (mod-eq_of_lt ha, mod-eq_of_lt hs.0, eqb_sym y a) (ap (λ (n : ℕ). cond (eqb a y) 1 0 + n) (with_key-alike r a ys ha hs.1))

-- the pairs of equal results: those of the class, those left with the results before it, those among these
shared-append : (r d : ℕ) → d < 2 ^ r → (ms ys : List ℕ) → Each (λ m. m < 2 ^ r) ms → Each (λ y. y < 2 ^ r) ys
    → shared (λ y. y) (map (λ m. bit_xor m d) ms ++ ys) ≡ shared (λ y. y) ms + (count r d ms ys + shared (λ y. y) ys)
unfolding shared count Each
shared-append r d low [] ys hm hs = omega arith
shared-append r d low (m ∷ ms) ys hm hs =
    omega (
      arith,
      with_key-append (bit_xor m d) (map (λ m. bit_xor m d) ms) ys,
      with_key-xor d m ms,
      with_key-alike r (bit_xor m d) ys (xor_lt r m d hm.0 low) hs,
      shared-append r d low ms ys hm.1 hs,
    )

-- ---- the classes of a round, one after the other

module _ {X : Type 0} (class moved : X → ℕ) (r : ℕ) (xs : List X) where
  -- the results of the members are those taken
  taken_total : (b : ℕ → List ℕ) (f : ℕ → ℕ) (cs : List ℕ) → Follows b cs
      → total f (taken class moved r xs cs)
      ≡ total (λ c. total (λ m. f (bit_xor m (choose r (of_class class moved c xs) (taken class moved r xs (b c))))) (of_class class moved c xs)) cs
  unfolding taken total Follows
  taken_total b f [] h = refl
  taken_total b f (c ∷ cs) h =
      let ms = of_class class moved c xs in
      let at : List ℕ → ℕ → ℕ = λ zs m. bit_xor m (choose r ms (taken class moved r xs zs)) in
      total_append f (map (at cs) ms) (taken class moved r xs cs)
      ∙ ap₂ ◌+◌ (total_map (at cs) f ms ∙ ap (λ (zs : List ℕ). total (λ m. f (at zs m)) ms) (sym h.0)) (taken_total b f cs h.1)

  pub results_total : (f : ℕ → ℕ) → Each (λ x. class x < 2 ^ r) xs
      → total f (taken class moved r xs (order class moved (2 ^ r) xs)) ≡ total (λ x. f (result class moved r xs x)) xs
  unfolding displacement result
  results_total f h =
      taken_total (λ c. behind c (order class moved (2 ^ r) xs)) f (order class moved (2 ^ r) xs) (order_follows class moved (2 ^ r) xs)
      ∙ total_classes class moved (λ c m. f (bit_xor m (displacement class moved r xs c))) (2 ^ r) xs h

  -- the pairs left over, summed over the classes cs
  unfoldable pub crossings : List ℕ → ℕ
  crossings [] = 0
  crossings (c ∷ cs) =
      count r (choose r (of_class class moved c xs) (taken class moved r xs cs)) (of_class class moved c xs) (taken class moved r xs cs) + crossings cs

  class_below : (c : ℕ) → Fit class moved r xs → Each (λ m. m < 2 ^ r) (of_class class moved c xs)
  unfolding Fit
  class_below c h = each-of_class class moved (λ m. m < 2 ^ r) c xs (each_with (λ x k _. k.1) xs h)

  taken-below : (cs : List ℕ) → Fit class moved r xs → Each (λ y. y < 2 ^ r) (taken class moved r xs cs)
  unfolding taken Each
  taken-below [] h = tt
  taken-below (c ∷ cs) h =
      let ms = of_class class moved c xs in
      let ys = taken class moved r xs cs in
      let d = choose r ms ys in
      each_append (λ y. y < 2 ^ r) (map (λ m. bit_xor m d) ms) ys
      (each_map (λ m. bit_xor m d) (λ y. y < 2 ^ r) ms (each_with (λ m k. xor_lt r m d k (choose_lt r ms ys)) ms (class_below c h))) (taken-below cs h)

  crossings_shared : (cs : List ℕ) → Fit class moved r xs → Distinct class moved xs → shared (λ y. y) (taken class moved r xs cs) ≡ crossings cs
  unfolding taken crossings shared
  crossings_shared [] h l = refl
  crossings_shared (c ∷ cs) h l =
      let ms = of_class class moved c xs in
      let ys = taken class moved r xs cs in
      omega (
        arith,
        shared-append r (choose r ms ys) (choose_lt r ms ys) ms ys
            (class_below c h) (taken-below cs h),
        shared-none (λ y. y) ms (class_apart class moved c xs l),
        crossings_shared cs h l,
      )

  -- the pairs that share a result
  pub round-shared : Fit class moved r xs → Distinct class moved xs → shared (result class moved r xs) xs ≡ crossings (order class moved (2 ^ r) xs)
  unfolding Fit
  round-shared h l =
      shared_same (result class moved r xs) (λ y. y) xs (taken class moved r xs (order class moved (2 ^ r) xs))
      (λ f. sym (results_total f (each_with (λ x k. k.0) xs h)))
      ∙ crossings_shared (order class moved (2 ^ r) xs) h l
