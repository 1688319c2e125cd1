-- How one class chooses its displacement, bit by bit. Assumes nothing.
use Rattle.std.specs.Prelude.{ℕ, zero, suc, ◌+◌, ◌%◌, ◌^◌, Bool, cond, List, [], ◌∷◌, ◌==◌, bit_xor, nat_lt}

-- a and b are equal in their lowest w bits
unfoldable pub agree : ℕ → ℕ → ℕ → Bool
agree w a b = a % 2 ^ w == b % 2 ^ w

-- how many of the results ys agree with m in w bits
unfoldable pub alike : ℕ → ℕ → List ℕ → ℕ
alike w m [] = 0
alike w m (y ∷ ys) = cond (agree w m y) 1 0 + alike w m ys

-- the pairs of a member of the class and a result already there that agree in w bits,
-- where ms are the moved numbers of the class and d is the displacement
unfoldable pub count : ℕ → ℕ → List ℕ → List ℕ → ℕ
count w d [] ys = 0
count w d (m ∷ ms) ys = alike w (bit_xor m d) ys + count w d ms ys

-- bit k is set exactly if that leaves fewer pairs in k + 1 bits
unfoldable pub pick : ℕ → ℕ → List ℕ → List ℕ → ℕ
pick k d ms ys = cond (nat_lt (count (k + 1) (d + 2 ^ k) ms ys) (count (k + 1) d ms ys)) (d + 2 ^ k) d

-- the displacement after its lowest k bits have been chosen
unfoldable pub choose : ℕ → List ℕ → List ℕ → ℕ
choose zero ms ys = 0
choose (suc k) ms ys = pick k (choose k ms ys) ms ys
