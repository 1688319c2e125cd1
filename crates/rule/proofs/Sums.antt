-- Sums over lists, and over the numbers below a bound. Assumes nothing.
use Rattle.std.proofs.Common.{◌≡◌, ℕ, zero, suc, ◌+◌, ◌*◌, ◌<◌, ◌≤◌, Bool, true, false, cond, eqb, List, [], ◌∷◌, ◌++◌, map, length, sum_by, sym, refl, ap, ◌∙◌, ap₂, ⊎_elim, arith}
use Rattle.std.specs.List.Sorted.{IsPermutation}
use Rattle.std.proofs.lemmas.List.Sums.{sum_by-cons}
use Rattle.std.proofs.lemmas.List.Sorted.{sum_by-IsPermutation}
use Rattle.std.proofs.lemmas.Bool.{cases_eq, eq-eqb, ne_eqb}
use Rattle.rule.specs.Places.{Each}
use Rattle.rule.specs.Round.{falling, keep}

module _ {X : Type 0} where
  -- the sum of f over a list
  unfoldable pub total : (X → ℕ) → List X → ℕ
  total f [] = 0
  total f (x ∷ xs) = f x + total f xs

  pub total_each : (f g : X → ℕ) (xs : List X) → Each (λ x. f x ≡ g x) xs → total f xs ≡ total g xs
  unfolding total Each
  total_each f g [] h = refl
  total_each f g (x ∷ xs) h = ap₂ ◌+◌ h.0 (total_each f g xs h.1)

  pub total_add : (f g : X → ℕ) (xs : List X) → total (λ x. f x + g x) xs ≡ total f xs + total g xs
  unfolding total
  total_add f g [] = refl
  total_add f g (x ∷ xs) = omega (arith, total_add f g xs)

  -- the same term for every member
  pub total_same : (a : ℕ) (xs : List X) → total (λ x. a) xs ≡ length xs * a
  unfolding total
  total_same a [] = omega arith
  total_same a (x ∷ xs) = omega (arith, total_same a xs)

  pub total_append : (f : X → ℕ) (xs ys : List X) → total f (xs ++ ys) ≡ total f xs + total f ys
  unfolding total
  total_append f [] ys = omega arith
  total_append f (x ∷ xs) ys = omega (arith, total_append f xs ys)

  total_sum_by : (f : X → ℕ) (xs : List X) → total f xs ≡ sum_by f xs
  unfolding total
  total_sum_by f [] = refl
  total_sum_by f (x ∷ xs) = ap (λ (n : ℕ). f x + n) (total_sum_by f xs) ∙ sym (sum_by-cons f x xs)

  -- a sum does not depend on the order
  pub total_shuffled : (f : X → ℕ) (xs ys : List X) → IsPermutation xs ys → total f xs ≡ total f ys
  total_shuffled f xs ys h = total_sum_by f xs ∙ sym (sum_by-IsPermutation f xs ys h) ∙ sym (total_sum_by f ys)

pub total_map : {X Y : Type 0} (h : X → Y) (f : Y → ℕ) (xs : List X) → total f (map h xs) ≡ total (λ x. f (h x)) xs
unfolding total
total_map h f [] = refl
total_map h f (x ∷ xs) = ap (λ (n : ℕ). f (h x) + n) (total_map h f xs)

-- what is kept counts as it is, what is left out counts 0
pub total_keep : (p : ℕ → Bool) (f : ℕ → ℕ) (cs : List ℕ) → total f (keep p cs) ≡ total (λ c. cond (p c) (f c) 0) cs
unfolding total keep
total_keep p f [] = refl
total_keep p f (c ∷ cs) = go (p c) (total_keep p f cs)
  where
    go : (b : Bool) → total f (keep p cs) ≡ total (λ c. cond (p c) (f c) 0) cs
        → total f (cond b (c ∷ keep p cs) (keep p cs)) ≡ cond b (f c) 0 + total (λ c. cond (p c) (f c) 0) cs
    go true h = ap (λ (n : ℕ). f c + n) h
    go false h = omega arith

total_away : (f : ℕ → ℕ) (v n : ℕ) → n ≤ v → total (λ c. cond (eqb v c) (f c) 0) (falling n) ≡ 0
unfolding total falling
total_away f v zero h = refl
total_away f v (suc n) h = rw (ne_eqb v n (omega arith)) (omega (arith, total_away f v n (omega arith)))

-- the sum over the numbers below n of a term that counts at v alone
pub total_at : (f : ℕ → ℕ) (v n : ℕ) → v < n → total (λ c. cond (eqb v c) (f c) 0) (falling n) ≡ f v
unfolding total falling
total_at f v zero h = absurd (omega arith)
total_at f v (suc n) h =
    ⊎_elim {C = cond (eqb v n) (f n) 0 + total (λ c. cond (eqb v c) (f c) 0) (falling n) ≡ f v}
    (λ e. rw (eq-eqb v n e) (omega (arith, total_away f v n (omega arith), ap f e)))
    (λ d. rw (ne_eqb v n d) (omega (arith, total_at f v n (omega arith)))) (cases_eq v n)
