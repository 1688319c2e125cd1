-- What xor does to single bits, and that it can be undone. Assumes nothing.
use Rattle.std.proofs.Common.{◌≡◌, ℕ, zero, suc, ◌+◌, ◌-◌, ◌*◌, ◌/◌, ◌%◌, ◌^◌, ◌<◌, eqb, sym, refl, ap, ◌∙◌, add_comm, one-mul, arith, pow_pos}
use native.Mathlib.Nat.{mod_self, div_self, div-eq_of_lt}
use lib.Bits.{bit_xor, xor_mod, xor_shr, xor_assoc, xor_comm, xor_self, xor_shifted, xor_zero_r}
use lib.Pow.{pow-lt, mod-pow-add}
use Rattle.std.proofs.lemmas.Bool.Decides.{nat_tests}

-- a number's k + 1 lowest bits are its bit k, then its k lowest bits
pub low_bits : (a k : ℕ) → a % 2 ^ (k + 1) ≡ a / 2 ^ k % 2 * 2 ^ k + a % 2 ^ k
low_bits a k = ap (λ (x : ℕ). a % 2 ^ x) (add_comm k 1) ∙ mod-pow-add a 1 k

flipped : (b : ℕ) → b < 2 → bit_xor b 1 ≡ 1 - b
flipped zero h = refl
flipped (suc zero) h = refl
flipped (suc (suc b)) h = absurd (omega arith)

-- xor by 2 ^ k flips bit k
pub flip_bit : (a k : ℕ) → bit_xor a (2 ^ k) / 2 ^ k % 2 ≡ 1 - a / 2 ^ k % 2
flip_bit a k =
    ap (λ (x : ℕ). x % 2) (xor_shr a (2 ^ k) k ∙ ap (bit_xor (a / 2 ^ k)) (div_self (pow_pos k))) ∙ xor_mod (a / 2 ^ k) 1 1
    ∙ flipped (a / 2 ^ k % 2) (omega arith)

-- it leaves the bits below bit k
pub flip_below : (a k : ℕ) → bit_xor a (2 ^ k) % 2 ^ k ≡ a % 2 ^ k
flip_below a k = xor_mod a (2 ^ k) k ∙ ap (bit_xor (a % 2 ^ k)) (mod_self (2 ^ k)) ∙ xor_zero_r (a % 2 ^ k)

-- and those above it
pub flip_above : (a k : ℕ) → bit_xor a (2 ^ k) / 2 ^ (k + 1) ≡ a / 2 ^ (k + 1)
flip_above a k =
    xor_shr a (2 ^ k) (k + 1) ∙ ap (bit_xor (a / 2 ^ (k + 1))) (div-eq_of_lt (pow-lt (lt_add_one k))) ∙ xor_zero_r (a / 2 ^ (k + 1))
  where
    lt_add_one : (n : ℕ) → n < n + 1
    lt_add_one n = omega arith

-- adding 2 ^ k to a displacement of k bits is xor by 2 ^ k
pub xor-add : (m d k : ℕ) → d < 2 ^ k → bit_xor m (d + 2 ^ k) ≡ bit_xor (bit_xor m d) (2 ^ k)
xor-add m d k h =
    ap (bit_xor m) (add_comm d (2 ^ k) ∙ ap (λ (x : ℕ). x + d) (sym (one-mul (2 ^ k))) ∙ sym (xor_shifted 1 k d h) ∙ ap (λ (x : ℕ). bit_xor x d) (one-mul (2 ^ k)) ∙ xor_comm (2 ^ k) d)
    ∙ sym (xor_assoc m d (2 ^ k))

-- xor by one number keeps numbers apart
pub xor_cancel : (a b d : ℕ) → bit_xor a d ≡ bit_xor b d → a ≡ b
xor_cancel a b d e = sym (twice a) ∙ ap (λ (x : ℕ). bit_xor x d) e ∙ twice b
  where
    twice : (c : ℕ) → bit_xor (bit_xor c d) d ≡ c
    twice c = xor_assoc c d d ∙ ap (bit_xor c) (xor_self d) ∙ xor_zero_r c

pub xor-eqb : (a b d : ℕ) → eqb (bit_xor a d) (bit_xor b d) ≡ eqb a b
xor-eqb a b d =
    let there : a ≡ b → bit_xor a d ≡ bit_xor b d = ap (λ (x : ℕ). bit_xor x d) in
    let back = xor_cancel a b d in
    grind (arith, nat_tests)
