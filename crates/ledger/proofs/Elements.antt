-- Elements of a list, one of which is written. Assumes nothing.
use Rattle.std.proofs.Common.{◌≡◌, ℕ, ◌+◌, ◌<◌, Bool, cond, List, length, get_or, take, set, Some, count_by, ⊎_elim, arith}
use Rattle.std.specs.List.{slice_get}
use Rattle.std.proofs.Math.Seq.{take-set-lt}
use Rattle.std.proofs.lemmas.Grind.{common_steps}
use Rattle.std.proofs.lemmas.Option.{gets, slice_get_cases, slice_get_within, get_or_from_slice_get}
use Rattle.std.proofs.lemmas.List.Sums.{sum_by-set}

module _ {X : Type 0} where
  pub nth_some : (xs : List X) (i : ℕ) → i < length xs → (x : X) × (slice_get xs i ≡ Some x)
  nth_some xs i h = ⊎_elim {C = (x : X) × (slice_get xs i ≡ Some x)} (λ here. (here.0, here.2)) (λ past. absurd (omega arith)) (slice_get_cases xs i).1

  pub nth_set-same : (xs : List X) (i : ℕ) (y : X) → i < length xs → slice_get (set xs i y) i ≡ Some y
  nth_set-same xs i y h = grind (arith, common_steps, gets)

  pub nth_set_other : (xs : List X) (i j : ℕ) (y : X) → (j ≡ i → ⊥) → slice_get (set xs i y) j ≡ slice_get xs j
  nth_set_other xs i j y ne = grind (arith, common_steps, gets, slice_get_cases)

  -- writing one element counts it in place of the old one
  pub count_set : (p : X → Bool) (n : ℕ) (xs : List X) (i : ℕ) (old new : X) → i < n → slice_get xs i ≡ Some old
      → count_by p (take n (set xs i new)) + cond (p old) 1 0 ≡ count_by p (take n xs) + cond (p new) 1 0
  count_set p n xs i old new h is =
      let within = slice_get_within xs i old is in
      let was : get_or (take n xs) i old ≡ old = grind (arith, common_steps, get_or_from_slice_get xs i old old is) in
      let counted = sum_by-set (λ (x : X). cond {A = ℕ} (p x) 1 0) (take n xs) i new old (grind (arith, common_steps)) in
      rw (take-set-lt n xs i new h) (rw was at counted)
