-- Pairs of members with equal keys, as sums. Assumes nothing.
use Rattle.std.proofs.Common.{◌≡◌, ℕ, ◌+◌, ◌*◌, cond, eqb, List, [], ◌∷◌, length, sym, refl, ap, ◌∙◌, arith}
use Rattle.std.proofs.lemmas.Bool.Decides.{nat_tests}
use Rattle.std.proofs.lemmas.Bool.{cond-true, eq-eqb, ne_eqb}
use Rattle.rule.specs.Places.{with_key, shared, Each, Apart}
use Rattle.rule.proofs.Sums.{total, total_add, total_same}

pub eqb_sym : (a b : ℕ) → eqb a b ≡ eqb b a
eqb_sym a b = grind (arith, nat_tests)

module _ {X : Type 0} (key : X → ℕ) where
  with_key_total : (k : ℕ) (xs : List X) → with_key key k xs ≡ total (λ x. cond (eqb (key x) k) 1 0) xs
  unfolding with_key total
  with_key_total k [] = refl
  with_key_total k (x ∷ xs) = ap (λ (n : ℕ). cond (eqb (key x) k) 1 0 + n) (with_key_total k xs)

  -- each two members count twice, and each member once with itself
  pub shared_double : (xs : List X) → shared key xs * 2 + length xs ≡ total (λ x. with_key key (key x) xs) xs
  unfolding with_key shared total
  shared_double [] = refl
  shared_double (x ∷ xs) =
      let here = total_add (λ y. cond (eqb (key x) (key y)) 1 0) (λ y. with_key key (key y) xs) xs in
      let turn = with_key_total (key x) xs ∙ ap (λ (f : X → ℕ). total f xs) (λ i y. cond (eqb_sym (key y) (key x) i) 1 0) in
      rw (eq-eqb (key x) (key x) refl) (omega (arith, shared_double xs))

  none_with : (k : ℕ) (xs : List X) → with_key key k xs ≡ 0 → Each (λ x. k ≡ key x → ⊥) xs
  unfolding with_key Each
  none_with k [] h = tt
  none_with k (x ∷ xs) h = ((λ e. let t = cond-true {A = ℕ} (eqb (key x) k) 1 0 (eq-eqb (key x) k (sym e)) in omega arith), none_with k xs (omega arith))

  with_none : (k : ℕ) (xs : List X) → Each (λ x. k ≡ key x → ⊥) xs → with_key key k xs ≡ 0
  unfolding with_key Each
  with_none k [] h = refl
  with_none k (x ∷ xs) h = rw (ne_eqb (key x) k (λ e. h.0 (sym e))) (omega (arith, with_none k xs h.1))

  -- no pair is shared exactly if no two keys are equal
  pub none-shared : (xs : List X) → shared key xs ≡ 0 → Apart (λ x y. key x ≡ key y) xs
  unfolding shared Apart
  none-shared [] h = tt
  none-shared (x ∷ xs) h = (none_with (key x) xs (omega arith), none-shared xs (omega arith))

  pub shared-none : (xs : List X) → Apart (λ x y. key x ≡ key y) xs → shared key xs ≡ 0
  unfolding shared Apart
  shared-none [] h = refl
  shared-none (x ∷ xs) h = omega (arith, with_none (key x) xs h.0, shared-none xs h.1)

-- keys with the same sums have as many equal pairs
module _ {X Y : Type 0} (key : X → ℕ) (key' : Y → ℕ) (xs : List X) (ys : List Y)
    (same : (f : ℕ → ℕ) → total (λ x. f (key x)) xs ≡ total (λ y. f (key' y)) ys) where
  pub length-same : length xs ≡ length ys
  length-same = let a = same (λ _. 1) in let b = total_same 1 xs in let c = total_same 1 ys in omega arith

  pub with_key-same : (k : ℕ) → with_key key k xs ≡ with_key key' k ys
  with_key-same k = with_key_total key k xs ∙ same (λ v. cond (eqb v k) 1 0) ∙ sym (with_key_total key' k ys)

  pub shared_same : shared key xs ≡ shared key' ys
  shared_same =
      let a = shared_double key xs in
      let b = shared_double key' ys in
      let c = same (λ k. with_key key k xs) in
      let d = ap (λ (f : ℕ → ℕ). total (λ y. f (key' y)) ys) (λ i k. with_key-same k i) in
      omega (arith, length-same)
