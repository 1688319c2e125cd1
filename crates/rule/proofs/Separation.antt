-- No two members share a result of a round where every class is small against the results before it. Assumes nothing.
use Rattle.std.proofs.Common.{◌≡◌, ℕ, ◌+◌, ◌*◌, ◌^◌, ◌<◌, ◌≤◌, Bool, true, false, cond, eqb, leb, List, [], ◌∷◌, ◌++◌, length, sym, refl, ap, ◌∙◌, mul-le-mul_right, lt_of_mul-lt-mul_right, arith}
use Rattle.std.proofs.lemmas.Bool.{eqb-true, leb-true}
use Rattle.rule.specs.Choose.{count, choose}
use Rattle.rule.specs.Places.{with_key, shared, Each, Fit, Distinct}
use Rattle.rule.specs.Round.{falling, keep, of_class, order, taken, result}
use Rattle.rule.proofs.Each.{each_with}
use Rattle.rule.proofs.Sums.{total, total_each, total_append, total_same}
use Rattle.rule.proofs.Pairs.{shared_double}
use Rattle.rule.proofs.Halving.{choose-count}
use Rattle.rule.proofs.Classes.{keep_passes, total_classes}
use Rattle.rule.proofs.Crossings.{crossings, round-shared}
use Rattle.rule.proofs.Bound.{length_taken, length-results}

module _ {X : Type 0} (class moved : X → ℕ) where
  -- how many members a class has
  unfoldable pub size : List X → ℕ → ℕ
  size xs c = length (of_class class moved c xs)

  with_key-size : (xs : List X) (c : ℕ) → with_key class c xs ≡ size xs c
  unfolding size with_key of_class
  with_key-size [] c = refl
  with_key-size (x ∷ xs) c = go (eqb (class x) c) (with_key-size xs c)
    where
      go : (b : Bool) → with_key class c xs ≡ length (of_class class moved c xs)
          → cond b 1 0 + with_key class c xs ≡ length (cond b (moved x ∷ of_class class moved c xs) (of_class class moved c xs))
      go true h = omega arith
      go false h = omega arith

  module _ (r : ℕ) (xs : List X) where
    taken-size : (cs : List ℕ) → length (taken class moved r xs cs) ≡ total (size xs) cs
    unfolding taken total size
    taken-size [] = refl
    taken-size (c ∷ cs) = length_taken class moved r xs c cs ∙ ap (λ (n : ℕ). length (of_class class moved c xs) + n) (taken-size cs)

    -- each of the classes cs with the results before it makes fewer than 2 ^ r pairs
    Light : List ℕ → Type 0
    Light [] = Unit {0}
    Light (c ∷ cs) = (size xs c * total (size xs) cs < 2 ^ r) × Light cs

    -- then no pair is left
    light_none : (cs : List ℕ) → Light cs → crossings class moved r xs cs ≡ 0
    unfolding Light crossings size
    light_none [] h = refl
    light_none (c ∷ cs) h =
        let ms = of_class class moved c xs in
        let ys = taken class moved r xs cs in
        let k = count r (choose r ms ys) ms ys in
        let e = ap (λ (n : ℕ). length ms * n) (taken-size cs) in
        let low : k * 2 ^ r < 1 * 2 ^ r = omega (arith, choose-count r ms ys) in
        omega (arith, lt_of_mul-lt-mul_right (2 ^ r) {m = k} {n = 1} low, light_none cs h.1)

    -- classes of one come after as few results as there are members
    light_ones : (ones bs : List ℕ) → Each (λ c. size xs c ≡ 1) ones → total (size xs) (ones ++ bs) ≤ 2 ^ r → Light bs → Light (ones ++ bs)
    unfolding Light Each total
    light_ones [] bs h room l = l
    light_ones (c ∷ ones) bs h room l = (rw h.0 (omega (arith, h.0)), light_ones ones bs h.1 (omega arith) l)

    -- a class of two or more has at least as many pairs, in either order, as members
    square_large : (cs : List ℕ) → Each (λ c. 2 ≤ size xs c) cs → total (size xs) cs * 2 ≤ total (λ c. size xs c * size xs c) cs
    unfolding Each total
    square_large [] h = omega arith
    square_large (c ∷ cs) h = omega (arith, mul-le-mul_right (size xs c) h.0, square_large cs h.1)

    -- classes of two or more, where q is twice the pairs of one class
    light_many : (q : ℕ) → ((s t : ℕ) → s * s + t ≤ q + s → s * t < 2 ^ r)
        → (cs : List ℕ) → Each (λ c. 2 ≤ size xs c) cs → total (λ c. size xs c * size xs c) cs ≤ q + total (size xs) cs → Light cs
    unfolding Light Each total
    light_many q small [] h l = tt
    light_many q small (c ∷ cs) h l =
        let up = mul-le-mul_right (size xs c) h.0 in
        let more = square_large cs h.1 in
        (small (size xs c) (total (size xs) cs) (omega arith), light_many q small cs h.1 (omega arith))

    module _ (fit : Fit class moved r xs) where
      -- the squares of the sizes count the pairs of one class twice, and every member once
      total_squares : total (λ c. size xs c * size xs c) (order class moved (2 ^ r) xs) ≡ shared class xs * 2 + length xs
      unfolding Fit size
      total_squares =
          ap (λ (f : ℕ → ℕ). total f (order class moved (2 ^ r) xs)) (λ i c. sym (total_same (size xs c) (of_class class moved c xs)) i)
          ∙ total_classes class moved (λ c m. size xs c) (2 ^ r) xs (each_with (λ x k. k.0) xs fit)
          ∙ ap (λ (f : ℕ → ℕ). total (λ x. f (class x)) xs) (λ i c. sym (with_key-size xs c) i)
          ∙ sym (shared_double class xs)

      module _ (distinct : Distinct class moved xs) (room : length xs ≤ 2 ^ r)
          (small : (s t : ℕ) → s * s + t ≤ shared class xs * 2 + s → s * t < 2 ^ r) where
        order_light : Light (order class moved (2 ^ r) xs)
        unfolding order size Fit
        order_light =
            let one : ℕ → Bool = λ c. eqb (size xs c) 1 in
            let many : ℕ → Bool = λ c. leb 2 (size xs c) in
            let ones = keep one (falling (2 ^ r)) in
            let rest = keep many (falling (2 ^ r)) in
            let all_one = each_with (λ c h. eqb-true (size xs c) 1 h) ones (keep_passes one (falling (2 ^ r))) in
            let n : total (size xs) (ones ++ rest) ≡ length xs = sym (taken-size (ones ++ rest)) ∙ length-results class moved r xs (each_with (λ x k. k.0) xs fit) in
            let square = total_squares in
            let same = total_each (λ c. size xs c * size xs c) (size xs) ones (each_with (λ c h. omega (arith, ap (λ (s : ℕ). size xs c * s) h)) ones all_one) in
            let split = total_append (λ c. size xs c * size xs c) ones rest in
            let sum = total_append (size xs) ones rest in
            light_ones ones rest all_one (omega arith)
            (light_many (shared class xs * 2) small rest (each_with (λ c h. leb-true 2 (size xs c) h) rest (keep_passes many (falling (2 ^ r)))) (omega arith))

        pub round_apart : shared (result class moved r xs) xs ≡ 0
        round_apart = round-shared class moved r xs fit distinct ∙ light_none (order class moved (2 ^ r) xs) order_light
