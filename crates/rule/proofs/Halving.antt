-- One more bit of a displacement splits the agreeing pairs in two: the smaller half is kept. Assumes nothing.
use Rattle.std.proofs.Common.{◌≡◌, ℕ, zero, suc, ◌+◌, ◌-◌, ◌*◌, ◌/◌, ◌%◌, ◌^◌, ◌<◌, ◌≤◌, cond, eqb, ltb, List, [], ◌∷◌, length, refl, ◌∙◌, add-zero, add-suc, mul-le-mul_right, mod-lt, pow-suc, add-one, arith, pow_pos}
use native.Mathlib.Nat.{mod-one}
use lib.Bits.{bit_xor}
use Rattle.std.proofs.lemmas.Bool.Decides.{nat_tests}
use Rattle.std.proofs.lemmas.Bool.{cond_both, cond-false, ltb-true, ltb-false, le-ltb}
use Rattle.rule.specs.Choose.{agree, alike, count, pick, choose}
use Rattle.rule.proofs.Xor.{low_bits, flip_bit, flip_below, xor-add}

one_of_two : (p x z l m : ℕ) → x < 2 → z < 2 → l < p → m < p
    → cond (eqb (x * p + l) (z * p + m)) 1 0 + cond (eqb ((1 - x) * p + l) (z * p + m)) 1 0 ≡ cond (eqb l m) 1 0
one_of_two p zero zero l m hx hz hl hm = grind (arith, nat_tests)
one_of_two p zero (suc zero) l m hx hz hl hm = grind (arith, nat_tests)
one_of_two p zero (suc (suc z)) l m hx hz hl hm = absurd (omega arith)
one_of_two p (suc zero) zero l m hx hz hl hm = grind (arith, nat_tests)
one_of_two p (suc zero) (suc zero) l m hx hz hl hm = grind (arith, nat_tests)
one_of_two p (suc zero) (suc (suc z)) l m hx hz hl hm = absurd (omega arith)
one_of_two p (suc (suc x)) z l m hx hz hl hm = absurd (omega arith)

-- of a and a with bit k flipped, one agrees with y in k + 1 bits if a does in k bits, and else none
pub agree-split : (k a y : ℕ) → cond (agree (k + 1) a y) 1 0 + cond (agree (k + 1) (bit_xor a (2 ^ k)) y) 1 0 ≡ cond (agree k a y) 1 0
unfolding agree
agree-split k a y =
    rw (low_bits a k, low_bits (bit_xor a (2 ^ k)) k, low_bits y k, flip_bit a k, flip_below a k)
    (one_of_two (2 ^ k) (a / 2 ^ k % 2) (y / 2 ^ k % 2) (a % 2 ^ k) (y % 2 ^ k) (omega arith) (omega arith) (mod-lt a (pow_pos k)) (mod-lt y (pow_pos k)))

alike-split : (k a : ℕ) (ys : List ℕ) → alike (k + 1) a ys + alike (k + 1) (bit_xor a (2 ^ k)) ys ≡ alike k a ys
unfolding alike
alike-split k a [] = refl
alike-split k a (y ∷ ys) = omega (arith, agree-split k a y, alike-split k a ys)

-- the pairs of both settings of bit k are the pairs before it
pub count-split : (k d : ℕ) (ms ys : List ℕ) → d < 2 ^ k → count (k + 1) d ms ys + count (k + 1) (d + 2 ^ k) ms ys ≡ count k d ms ys
unfolding count
count-split k d [] ys h = refl
count-split k d (m ∷ ms) ys h =
    rw (xor-add m d k h) (omega (arith, alike-split k (bit_xor m d) ys, count-split k d ms ys h))

alike_all : (m : ℕ) (ys : List ℕ) → alike 0 m ys ≡ length ys
unfolding alike agree
alike_all m [] = refl
alike_all m (y ∷ ys) = rw (mod-one m, mod-one y) (omega (arith, alike_all m ys))

-- every pair agrees in no bits
pub count-all : (d : ℕ) (ms ys : List ℕ) → count 0 d ms ys ≡ length ms * length ys
unfolding count
count-all d [] ys = omega arith
count-all d (m ∷ ms) ys = omega (arith, alike_all (bit_xor m d) ys, count-all d ms ys)

module _ (k d : ℕ) (ms ys : List ℕ) (low : d < 2 ^ k) where
  pub pick_lt : pick k d ms ys < 2 ^ suc k
  unfolding pick
  pick_lt = rw (pow-suc 2 k) (cond_both _ (d + 2 ^ k) d (λ x. x < 2 ^ k * 2) (λ _. omega arith) (λ _. omega arith))

  -- the chosen setting of bit k has at most half of the pairs
  pub pick-half : count (suc k) (pick k d ms ys) ms ys * 2 ≤ count k d ms ys
  unfolding pick
  pick-half =
      rw (← add-one k)
      (cond_both (ltb (count (k + 1) (d + 2 ^ k) ms ys) (count (k + 1) d ms ys)) (d + 2 ^ k) d (λ x. count (k + 1) x ms ys * 2 ≤ count k d ms ys)
      (λ e. omega (arith, count-split k d ms ys low, ltb-true _ _ e)) (λ e. omega (arith, count-split k d ms ys low, ltb-false _ _ e)))

  -- a bit is not set where no pair is left
  pub pick-none : count k d ms ys ≡ 0 → pick k d ms ys ≡ d
  unfolding pick
  pick-none none = cond-false _ (d + 2 ^ k) d (le-ltb _ _ (omega (arith, count-split k d ms ys low)))

-- a displacement has as many bits as were chosen
pub choose_lt : (k : ℕ) (ms ys : List ℕ) → choose k ms ys < 2 ^ k
unfolding choose
choose_lt zero ms ys = omega arith
choose_lt (suc k) ms ys = pick_lt k (choose k ms ys) ms ys (choose_lt k ms ys)

doubled : (a b c p : ℕ) → a * 2 ≤ b → b * p ≤ c → a * (p * 2) ≤ c
doubled a b c p h l = omega (arith, mul-le-mul_right p h)

-- every chosen bit halves the pairs
pub choose-count : (k : ℕ) (ms ys : List ℕ) → count k (choose k ms ys) ms ys * 2 ^ k ≤ length ms * length ys
unfolding choose
choose-count zero ms ys = omega (arith, count-all 0 ms ys)
choose-count (suc k) ms ys =
    rw (pow-suc 2 k)
    (doubled _ (count k (choose k ms ys) ms ys) _ (2 ^ k) (pick-half k (choose k ms ys) ms ys (choose_lt k ms ys)) (choose-count k ms ys))

-- a class without members has displacement 0
pub choose-empty : (k : ℕ) (ys : List ℕ) → choose k [] ys ≡ 0
unfolding choose count
choose-empty zero ys = refl
choose-empty (suc k) ys = pick-none k (choose k [] ys) [] ys (choose_lt k [] ys) refl ∙ choose-empty k ys

-- once no pair is left, no later bit is set and no pair comes back
pub choose_settled : (k j : ℕ) (ms ys : List ℕ) → count k (choose k ms ys) ms ys ≡ 0
    → (choose (k + j) ms ys ≡ choose k ms ys) × (count (k + j) (choose (k + j) ms ys) ms ys ≡ 0)
unfolding choose
choose_settled k zero ms ys none = rw (add-zero k) (refl, none)
choose_settled k (suc j) ms ys none = rw (add-suc k j) (more (choose_settled k j ms ys none))
  where
    more : (choose (k + j) ms ys ≡ choose k ms ys) × (count (k + j) (choose (k + j) ms ys) ms ys ≡ 0)
        → (choose (suc (k + j)) ms ys ≡ choose k ms ys) × (count (suc (k + j)) (choose (suc (k + j)) ms ys) ms ys ≡ 0)
    more h = (
      pick-none (k + j) (choose (k + j) ms ys) ms ys (choose_lt (k + j) ms ys) h.1 ∙ h.0,
      omega (arith, pick-half (k + j) (choose (k + j) ms ys) ms ys (choose_lt (k + j) ms ys)),
    )
