-- Every class of the second round is small against the results before it. Assumes nothing.
use Rattle.std.proofs.Common.{ℕ, zero, suc, ◌+◌, ◌*◌, ◌^◌, ◌<◌, ◌≤◌, ⊎_elim, mul-le-mul_right, mul-le-mul, lt_of_mul-lt-mul_right, mul-le-mul_left, mul-pos, arith}
use native.Mathlib.Nat.{le_dest}
use Rattle.std.proofs.lemmas.Bool.{cases_lt}
use Rattle.rule.proofs.Bound.{le_square}

two_squares : (a b : ℕ) → a * b * 2 ≤ a * a + b * b
two_squares zero b = omega arith
two_squares (suc a) zero = omega arith
two_squares (suc a) (suc b) = omega (arith, two_squares a b)

-- q shared pairs of n members are fewer than a fiftieth of p, where p is at least five times n
few-shared : (q n p : ℕ) → 0 < p → q * p * 2 + n ≤ n * n → 5 * n ≤ p → q * 50 < p
few-shared q n p pos bound room = lt_of_mul-lt-mul_right p {m = q * 50} {n = p} (go n bound (mul-le-mul room room))
  where
    go : (n : ℕ) → q * p * 2 + n ≤ n * n → 5 * n * (5 * n) ≤ p * p → q * 50 * p < p * p
    go zero h l = omega (arith, mul-pos pos pos)
    go (suc n) h l = omega arith

-- from 25 members on, by s * s ≥ 74 * s - 37 * 37
large_class : (u t q p : ℕ) → q * 50 < p → p ≤ 2 ^ 16 → (25 + u) * (25 + u) + t ≤ q * 2 + (25 + u) → (25 + u) * t < p
large_class u t q p few top h =
    let s : ℕ = 25 + u in
    let low : q * 2 ≤ 2621 = omega arith in
    omega (arith, mul-le-mul_left s h, mul-le-mul_left u low, two_squares 37 s, mul-le-mul_left s (two_squares 37 s))

-- a class of s members after t results makes fewer than p pairs with them
pub small_class : (q n p : ℕ) → 0 < p → q * p * 2 + n ≤ n * n → 5 * n ≤ p → p ≤ 2 ^ 16
    → (s t : ℕ) → s * s + t ≤ q * 2 + s → s * t < p
small_class q n p pos bound room top s t h =
    let few = few-shared q n p pos bound room in
    ⊎_elim {C = s * t < p}
    (λ (l : s < 25). let k : s ≤ 25 = omega arith in omega (arith, le_square s, mul-le-mul_right t k))
    (λ l. let (u, e) = le_dest l in rw (← e) (large_class u t q p few top (rw (← e) at h))) (cases_lt s 25)
