-- One round: every member has a class and a moved number, and every class gets a displacement. Assumes nothing.
use Rattle.std.specs.Prelude.{ℕ, zero, suc, ◌^◌, Bool, cond, List, [], ◌∷◌, ◌++◌, map, length, ◌==◌, bit_xor, nat_eq, nat_le}
use Rattle.rule.specs.Choose.{choose}

-- n - 1, .., 1, 0
unfoldable pub falling : ℕ → List ℕ
falling zero = []
falling (suc n) = n ∷ falling n

-- those that pass a test
unfoldable pub keep : (ℕ → Bool) → List ℕ → List ℕ
keep p [] = []
keep p (x ∷ xs) = cond (p x) (x ∷ keep p xs) (keep p xs)

-- what stands behind the first v
unfoldable pub behind : ℕ → List ℕ → List ℕ
behind v [] = []
behind v (c ∷ cs) = cond (c == v) cs (behind v cs)

module _ {X : Type 0} (class moved : X → ℕ) where
  -- the moved numbers of the members of class c
  unfoldable pub of_class : ℕ → List X → List ℕ
  of_class c [] = []
  of_class c (x ∷ xs) = cond (class x == c) (moved x ∷ of_class c xs) (of_class c xs)

  -- the order in which classes are taken, the last one first:
  -- classes of two members or more in rising number, then classes of one in rising number
  unfoldable pub order : ℕ → List X → List ℕ
  order n xs = keep (λ c. nat_eq (length (of_class c xs)) 1) (falling n) ++ keep (λ c. nat_le 2 (length (of_class c xs))) (falling n)

  -- the results of the classes cs, taken from the last of the list to the first, over r bits
  unfoldable pub taken : ℕ → List X → List ℕ → List ℕ
  taken r xs [] = []
  taken r xs (c ∷ cs) = map (λ m. bit_xor m (choose r (of_class c xs) (taken r xs cs))) (of_class c xs) ++ taken r xs cs

  -- the displacement of class v: chosen over the results of the classes taken before it
  -- (0 for a class without members, which has no pairs)
  unfoldable pub displacement : ℕ → List X → ℕ → ℕ
  displacement r xs v = choose r (of_class v xs) (taken r xs (behind v (order (2 ^ r) xs)))

  unfoldable pub result : ℕ → List X → X → ℕ
  result r xs x = bit_xor (moved x) (displacement r xs (class x))
