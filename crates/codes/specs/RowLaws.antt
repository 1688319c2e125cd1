-- Rows with equal fields are equal, rows with equal halves have equal fields, and a row is made from its own halves.
use Rattle.std.specs.Prelude.{◌≡◌, ℕ, ◌+◌, ◌*◌, ◌/◌, ◌%◌, ◌^◌, ◌<◌, Bool, true, false, cond, ◌&&◌, ℤ, pos, negsuc, Some, None, Decides, ◌==◌, refl}
use Rattle.std.proofs.Common.{sym, ap, subst, ◌∙◌, arith}
use Rattle.std.specs.Int.Signed.{mag}
use Rattle.std.proofs.Math.Bridge.{le_prop}
use Rattle.codes.specs.declared.rows.Row.{Row}
use Rattle.codes.specs.Rows.{folded, in_range, raise, row_front, row_back, unfolded, candidate, row_of}
use Rattle.codes.specs.Makings.{MadeCode}
use Rattle.std.proofs.lemmas.Bool.Decides.{Decides-eqb}

abbrev row : (round : ℤ) (stake : ℕ) → mag round < 2 ^ 15 → stake < 2 ^ 16 → Row
row round stake h k = record { round = round; stake = stake; round_fits = h; stake_fits = k }

same_stake : (x : Row) (stake : ℕ) → x.stake ≡ stake → (h : mag x.round < 2 ^ 15) (k : stake < 2 ^ 16) → x ≡ row x.round stake h k
same_stake x stake e =
    subst (λ (n : ℕ). (h : mag x.round < 2 ^ 15) (k : n < 2 ^ 16) → x ≡ row x.round n h k) e
    (λ h k. ap (λ p. row x.round x.stake p x.stake_fits) (le_prop x.round_fits h) ∙ ap (row x.round x.stake h) (le_prop x.stake_fits k))

pub same_fields : (x y : Row) → x.round ≡ y.round → x.stake ≡ y.stake → x ≡ y
same_fields x y e f =
    subst (λ (z : ℤ). (h : mag z < 2 ^ 15) → x ≡ row z y.stake h y.stake_fits) e
    (λ h. same_stake x y.stake f h y.stake_fits)
    y.round_fits

-- the numbers that rounds fold to
folded_below : (z : ℤ) → mag z < 2 ^ 15 → folded z < 65536
folded_below (pos n) h = omega arith
folded_below (negsuc n) h = omega arith

same_folded : (y z : ℤ) → folded y ≡ folded z → y ≡ z
same_folded (pos m) (pos n) e = ap pos (omega arith)
same_folded (pos m) (negsuc n) e = absurd (omega arith)
same_folded (negsuc m) (pos n) e = absurd (omega arith)
same_folded (negsuc m) (negsuc n) e = ap negsuc (omega arith)

raised_mod : (n : ℕ) (b : Bool) → n < 65536 → (n + raise b) % 65536 ≡ n
raised_mod n true h = omega arith
raised_mod n false h = omega arith

front_mod : (x : Row) → row_front x % 65536 ≡ folded x.round
front_mod x = raised_mod (folded x.round) (in_range x) (folded_below x.round x.round_fits)

pub same_halves : (x y : Row) → row_front x ≡ row_front y → row_back x ≡ row_back y → x ≡ y
same_halves x y f b =
    same_fields x y (same_folded x.round y.round (sym (front_mod x) ∙ ap (λ n. n % 65536) f ∙ front_mod y)) b

unfolded_folded : (z : ℤ) → unfolded (folded z) ≡ z
unfolded_folded (pos n) =
    let even : 2 * n % 2 ≡ 0 = omega arith in
    let half : 2 * n / 2 ≡ n = omega arith in
    rw (even, half)
unfolded_folded (negsuc n) =
    let odd : (2 * n + 1) % 2 ≡ 1 = omega arith in
    let half : (2 * n + 1) / 2 ≡ n = omega arith in
    rw (odd, half)

own_row : (x : Row) → candidate (row_front x) (row_back x) ≡ x
own_row x =
    same_fields (candidate (row_front x) (row_back x)) x (ap unfolded (front_mod x) ∙ unfolded_folded x.round)
    (omega (arith, x.stake_fits))

only_row : (f b : ℕ) (x : Row) → row_front x ≡ f → row_back x ≡ b → candidate f b ≡ x
only_row f b x ef eb = rw (← ef, ← eb) (own_row x)

checked : (w : Row) (f b : ℕ) → ((x : Row) → row_front x ≡ f → row_back x ≡ b → w ≡ x) → (p q : Bool) → Decides p (row_front w ≡ f) → Decides q (row_back w ≡ b) → MadeCode row_front row_back f b (cond (p && q) (Some w) None)
checked w f b only true true P Q = (P.0 refl, Q.0 refl)
checked w f b only true false P Q = λ x ef eb. cc (Q.1 (ap row_back (only x ef eb) ∙ eb))
checked w f b only false true P Q = λ x ef eb. cc (P.1 (ap row_front (only x ef eb) ∙ ef))
checked w f b only false false P Q = λ x ef eb. cc (P.1 (ap row_front (only x ef eb) ∙ ef))

pub made_row : (f b : ℕ) → MadeCode row_front row_back f b (row_of f b)
made_row f b =
    let w : Row = candidate f b in
    checked w f b (only_row f b) (row_front w == f) (row_back w == b) (Decides-eqb (row_front w) f) (Decides-eqb (row_back w) b)
