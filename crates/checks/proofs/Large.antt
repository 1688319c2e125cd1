-- No half is too large exactly if all fit. Assumes nothing.
use Rattle.std.proofs.Common.{◌≡◌, ℕ, ◌+◌, ◌^◌, Bool, true, false, cond, leb, List, [], ◌∷◌, map, Some, None, Option, refl, ◌∙◌}
use Rattle.std.proofs.lemmas.Bool.{leb-false, lt-leb, cond-false}
use Rattle.rule.specs.Places.{Each, Fit}
use Rattle.checks.specs.Checks.{large_half_of}

-- where a test finds something, the answer is not none
pub test_failed : {A : Type 0} (b : Bool) (x : A) (rest : Option A) → cond b (Some x) rest ≡ None → (b ≡ false) × (rest ≡ None)
test_failed true x rest e = absurd cc
test_failed false x rest e = (refl, e)

module _ {X : Type 0} (front back : X → ℕ) (r : ℕ) where
  pub none_large_fit : (position : ℕ) (xs : List X) → large_half_of front back (2 ^ r) position xs ≡ None → Fit front back r xs
  unfolding large_half_of Fit Each
  none_large_fit position [] e = tt
  none_large_fit position (x ∷ xs) e =
      let f = test_failed (leb (2 ^ r) (front x)) _ _ e in
      let b = test_failed (leb (2 ^ r) (back x)) _ _ f.1 in
      ((leb-false (2 ^ r) (front x) f.0, leb-false (2 ^ r) (back x) b.0), none_large_fit (position + 1) xs b.1)

  pub fit-none_large : (position : ℕ) (xs : List X) → Fit front back r xs → large_half_of front back (2 ^ r) position xs ≡ None
  unfolding large_half_of Fit Each
  fit-none_large position [] h = refl
  fit-none_large position (x ∷ xs) h =
      cond-false _ _ _ (lt-leb (2 ^ r) (front x) h.0.0) ∙ cond-false _ _ _ (lt-leb (2 ^ r) (back x) h.0.1) ∙ fit-none_large (position + 1) xs h.1

-- members made from others by a function h
pub large_map : {X Y : Type 0} (h : X → Y) (front back : Y → ℕ) (n position : ℕ) (xs : List X)
    → large_half_of front back n position (map h xs) ≡ large_half_of (λ x. front (h x)) (λ x. back (h x)) n position xs
unfolding large_half_of
large_map h front back n position [] = refl
large_map h front back n position (x ∷ xs) = rw (large_map h front back n (position + 1) xs)
