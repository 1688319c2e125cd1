-- Which number a refusal has does not depend on the order of the members. Assumes nothing.
use Rattle.std.proofs.Common.{◌≡◌, ℕ, ◌+◌, ◌^◌, Bool, true, false, cond, leb, List, [], ◌∷◌, length, Some, None, Ok, Err, Option, Result, sym, refl, ap, ◌∙◌, subst}
use Rattle.std.specs.List.Sorted.{IsPermutation}
use Rattle.std.proofs.lemmas.List.Sorted.{length_permutation, IsPermutation-sym}
use Rattle.fault.specs.Table.{number_of}
use Rattle.fault.specs.declared.Fault.{Fault}
use Rattle.fault.specs.declared.Fault.TheVariants.{LargeHalf, RepeatedCode}
use Rattle.fault.specs.declared.Half.TheVariants.{Front, Back}
use Rattle.lists.specs.Size.{and_then}
use Rattle.rule.specs.Places.{shared_pairs_of}
use Rattle.rule.proofs.Order.{fit_shuffled}
use Rattle.checks.specs.Checks.{large_half_of, repeated}
use Rattle.checks.proofs.Large.{none_large_fit, fit-none_large}
use Rattle.build.specs.declared.Member.{Member}
use Rattle.build.specs.Checked.{counts_checked, halves_checked, codes_checked}
use Rattle.build.specs.Built.{half, answer}
use Rattle.build.proofs.Meeting.{accepted_counted}

-- a fault found among the halves has the number 5
HasNumber : Option Fault → Type 0
HasNumber None = Unit {0}
HasNumber (Some fault) = number_of fault ≡ 5

large_number : {X : Type 0} (front back : X → ℕ) (n position : ℕ) (xs : List X) → HasNumber (large_half_of front back n position xs)
unfolding large_half_of HasNumber
large_number front back n position [] = tt
large_number front back n position (x ∷ xs) = tests (leb n (front x)) (leb n (back x)) _ (large_number front back n (position + 1) xs)
  where
    tests : (b c : Bool) (rest : Option Fault) → HasNumber rest → HasNumber (cond b (Some (LargeHalf Front position)) (cond c (Some (LargeHalf Back position)) rest))
    tests true c rest h = refl
    tests false true rest h = refl
    tests false false rest h = h

-- two checks of halves, of which both find a large half or neither does, refuse by one number
same_number : (large large' : Option Fault) (twice twice' : Option ℕ) (x y : ℕ × ℕ) (f g : Fault) → HasNumber large → HasNumber large' → (large ≡ None → large' ≡ None) → (large' ≡ None → large ≡ None)
    → Err f ≡ and_then (halves_checked large twice) (λ _. Ok x) → Err g ≡ and_then (halves_checked large' twice') (λ _. Ok y) → number_of f ≡ number_of g
unfolding HasNumber
same_number (Some p) (Some q) twice twice' x y f g h h' to from e e' =
    let ef : f ≡ p = cc in
    let eg : g ≡ q = cc in
    ap number_of ef ∙ h ∙ sym (ap number_of eg ∙ h')
same_number (Some p) None twice twice' x y f g h h' to from e e' = let n = from refl in absurd cc
same_number None (Some q) twice twice' x y f g h h' to from e e' = let n = to refl in absurd cc
same_number None None (Some i) (Some j) x y f g h h' to from e e' =
    let ef : f ≡ RepeatedCode i = cc in
    let eg : g ≡ RepeatedCode j = cc in
    ap number_of ef ∙ sym (ap number_of eg)
same_number None None None twice' x y f g h h' to from e e' = absurd cc
same_number None None (Some i) None x y f g h h' to from e e' = absurd cc

module _ {C V : Type 0} (front back : C → ℕ) (r : ℕ) (ms others : List (Member C V)) (shuffled : IsPermutation ms others) where
  codes_number : (x y : ℕ × ℕ) (f g : Fault) → Err f ≡ and_then (codes_checked (half front) (half back) (2 ^ r) ms) (λ _. Ok x)
      → Err g ≡ and_then (codes_checked (half front) (half back) (2 ^ r) others) (λ _. Ok y) → number_of f ≡ number_of g
  unfolding codes_checked
  codes_number x y f g =
      same_number (large_half_of (half front) (half back) (2 ^ r) 0 ms) (large_half_of (half front) (half back) (2 ^ r) 0 others) (repeated (half front) (half back) [] 0 ms) (repeated (half front) (half back) [] 0 others) x y f g
      (large_number (half front) (half back) (2 ^ r) 0 ms) (large_number (half front) (half back) (2 ^ r) 0 others)
      (λ none. fit-none_large (half front) (half back) r 0 others (fit_shuffled ms others shuffled (half front) (half back) r (none_large_fit (half front) (half back) r 0 ms none)))
      (λ none. fit-none_large (half front) (half back) r 0 ms (fit_shuffled others ms (IsPermutation-sym ms others shuffled) (half front) (half back) r (none_large_fit (half front) (half back) r 0 others none)))

  counts_number : (k : Result ℕ Fault) (x y : ℕ × ℕ) (f g : Fault) → ((n : ℕ) → k ≡ Ok n → n ≡ 2 ^ r) → Err f ≡ and_then k (λ n. and_then (codes_checked (half front) (half back) n ms) (λ _. Ok x))
      → Err g ≡ and_then k (λ n. and_then (codes_checked (half front) (half back) n others) (λ _. Ok y)) → number_of f ≡ number_of g
  counts_number (Err h) x y f g size e e' = let same : f ≡ g = cc in ap number_of same
  counts_number (Ok n) x y f g size e e' =
      codes_number x y f g
      (subst (λ (n : ℕ). Err f ≡ and_then (codes_checked (half front) (half back) n ms) (λ _. Ok x)) (size n refl) e)
      (subst (λ (n : ℕ). Err g ≡ and_then (codes_checked (half front) (half back) n others) (λ _. Ok y)) (size n refl) e')

  pub refusals_same : (first second slots work : ℕ) (f g : Fault) → Err f ≡ answer front back r ms first second slots work → Err g ≡ answer front back r others first second slots work → number_of f ≡ number_of g
  unfolding answer
  refusals_same first second slots work f g e e' =
      counts_number (counts_checked r (length ms) first second slots work) _ _ f g (λ n h. (accepted_counted r (length ms) first second slots work n h).size) e
      (e' ∙ ap (λ (m : ℕ). and_then (counts_checked r m first second slots work) (λ n. and_then (codes_checked (half front) (half back) n others) (λ _. Ok (length others, shared_pairs_of (half front) (half back) r others)))) (length_permutation ms others shuffled))
