-- In one round few pairs of members share a result. Assumes nothing.
use Rattle.std.proofs.Common.{◌≡◌, ℕ, zero, suc, ◌+◌, ◌-◌, ◌*◌, ◌/◌, ◌^◌, ◌<◌, ◌≤◌, List, [], ◌∷◌, length, arith}
use Rattle.std.proofs.lemmas.List.{length-append, length-map}
use Rattle.rule.specs.Choose.{count, choose}
use Rattle.rule.specs.Places.{shared, Each, Fit, Distinct}
use Rattle.rule.specs.Round.{of_class, order, taken, result}
use Rattle.rule.proofs.Each.{each_with}
use Rattle.rule.proofs.Pairs.{length-same}
use Rattle.rule.proofs.Halving.{choose-count}
use Rattle.rule.proofs.Crossings.{results_total, crossings, round-shared}

pub le_square : (n : ℕ) → n ≤ n * n
le_square zero = omega arith
le_square (suc n) = omega arith

-- a class of s members adds k pairs to c pairs of l results
add_class : (k c s l p : ℕ) → k * p ≤ s * l → c * p * 2 + l ≤ l * l → (k + c) * p * 2 + (s + l) ≤ (s + l) * (s + l)
add_class k c s l p h m = omega (arith, le_square s)

-- from twice the pairs to the pairs
half_pairs : (a n : ℕ) → a * 2 + n ≤ n * n → a ≤ n * (n - 1) / 2
half_pairs a zero h = omega arith
half_pairs a (suc n) h =
    let e : suc n - 1 ≡ n = omega arith in
    rw e (omega arith)

module _ {X : Type 0} (class moved : X → ℕ) (r : ℕ) (xs : List X) where
  -- one more class adds its members
  pub length_taken : (c : ℕ) (cs : List ℕ) → length (taken class moved r xs (c ∷ cs)) ≡ length (of_class class moved c xs) + length (taken class moved r xs cs)
  unfolding taken
  length_taken c cs = simp (length-append, length-map)

  -- twice the pairs left over, times 2 ^ r, are at most the pairs of different results in either order
  crossings_bound : (cs : List ℕ) → crossings class moved r xs cs * 2 ^ r * 2 + length (taken class moved r xs cs)
      ≤ length (taken class moved r xs cs) * length (taken class moved r xs cs)
  unfolding crossings taken
  crossings_bound [] = omega arith
  crossings_bound (c ∷ cs) =
      let ms = of_class class moved c xs in
      let ys = taken class moved r xs cs in
      rw (length_taken c cs)
      (add_class (count r (choose r ms ys) ms ys) (crossings class moved r xs cs) (length ms) (length ys) (2 ^ r) (choose-count r ms ys) (crossings_bound cs))

  -- every member has one result
  pub length-results : Each (λ x. class x < 2 ^ r) xs → length (taken class moved r xs (order class moved (2 ^ r) xs)) ≡ length xs
  length-results h =
      length-same (λ y. y) (result class moved r xs) (taken class moved r xs (order class moved (2 ^ r) xs)) xs (λ f. results_total class moved r xs f h)

  module _ (fit : Fit class moved r xs) (distinct : Distinct class moved xs) where
    pub round_bound_double : shared (result class moved r xs) xs * 2 ^ r * 2 + length xs ≤ length xs * length xs
    unfolding Fit
    round_bound_double =
        rw (round-shared class moved r xs fit distinct, ← length-results (each_with (λ x k. k.0) xs fit)) (crossings_bound (order class moved (2 ^ r) xs))

    -- the collision bound of one round
    pub round_bound : shared (result class moved r xs) xs * 2 ^ r ≤ length xs * (length xs - 1) / 2
    round_bound = half_pairs _ (length xs) round_bound_double
