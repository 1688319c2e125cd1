-- What the counters say of the results that they count. Assumes nothing.
use Rattle.std.proofs.Common.{◌≡◌, ℕ, zero, suc, ◌+◌, ◌*◌, ◌%◌, ◌^◌, ◌<◌, ◌≤◌, true, false, cond, eqb, ◌≢◌, List, [], ◌∷◌, ◌++◌, length, get_or, take, set, replicate, sym, refl, ap, ◌∙◌, ⊎_elim, not-suc-le-zero, add_assoc, mod-lt, mod-eq_of_lt, pow-suc, zero-add, add-one, arith, pow_pos, pow_mono}
use native.Mathlib.Nat.{mod-mod}
use lib.Bits.{bit_xor}
use Rattle.std.proofs.lemmas.List.{length-set, get_or-set_same, get_or-set_other, length-replicate, get_or-replicate, map_more, length-append, length-map, length-take}
use Rattle.std.proofs.lemmas.List.Sums.{sum_by-cons}
use Rattle.std.proofs.lemmas.Bool.{cases_eq, eq-eqb, ne_eqb}
use Rattle.std.proofs.lemmas.Bool.Decides.{nat_tests}
use Rattle.rule.specs.Choose.{agree, alike, count}
use Rattle.displace.specs.Counts.{Counts, Room, shown, results}

alike-mod : (w a : ℕ) (ys : List ℕ) → alike w (a % 2 ^ w) ys ≡ alike w a ys
unfolding alike agree
alike-mod w a [] = refl
alike-mod w a (y ∷ ys) = rw (mod-mod a (2 ^ w), alike-mod w a ys)

pub alike-append : (w a : ℕ) (xs ys : List ℕ) → alike w a (xs ++ ys) ≡ alike w a xs + alike w a ys
unfolding alike
alike-append w a [] ys = sym (zero-add (alike w a ys))
alike-append w a (x ∷ xs) ys = rw (alike-append w a xs ys) (sym (add_assoc (cond (agree w a x) 1 0) (alike w a xs) (alike w a ys)))

alike_le : (w a : ℕ) (ys : List ℕ) → alike w a ys ≤ length ys
unfolding alike
alike_le w a [] = omega arith
alike_le w a (y ∷ ys) =
    let h : alike w a ys ≤ length ys = alike_le w a ys in
    elim (agree w a y) as (λ b. cond b 1 0 + alike w a ys ≤ suc (length ys)) [ true ↦ omega arith | false ↦ omega arith ]

-- ---- the pairs of a class
-- the counter of a number is that of its lowest bits
looked : (r w x : ℕ) (ys t : List ℕ) → w ≤ r → Counts r ys t → get_or t (2 ^ w + x % 2 ^ w) 0 ≡ alike w x ys
looked r w x ys t h k = k.each w (x % 2 ^ w) h (mod-lt x (pow_pos w)) ∙ alike-mod w x ys

pub shown_is : (r w d : ℕ) (ms ys t : List ℕ) → w ≤ r → Counts r ys t → shown w d ms t ≡ count w d ms ys
unfolding count
shown_is r w d [] ys t h k = refl
shown_is r w d (m ∷ ms) ys t h k =
    sum_by-cons (λ x. get_or t (2 ^ w + bit_xor x d % 2 ^ w) 0) m ms ∙ rw (looked r w (bit_xor m d) ys t h k, shown_is r w d ms ys t h k)

-- ---- one more result
-- a counter that goes up by one
pub bumped : (t : List ℕ) (i j : ℕ) → j < length t → get_or (set t i (get_or t i 0 + 1)) j 0 ≡ cond (eqb j i) 1 0 + get_or t j 0
bumped t i j h =
    ⊎_elim {C = get_or (set t i (get_or t i 0 + 1)) j 0 ≡ cond (eqb j i) 1 0 + get_or t j 0}
    (λ e. rw (eq-eqb j i e, ← e, get_or-set_same t j (get_or t j 0 + 1) 0 h) (omega arith))
    (λ ne. rw (ne_eqb j i ne, get_or-set_other t i j (get_or t i 0 + 1) 0 ne) (omega arith))
    (cases_eq j i)

eqb_shift : (a b c : ℕ) → eqb (a + b) (a + c) ≡ eqb b c
eqb_shift a b c = grind (arith, nat_tests)

-- the counters once a result y has been counted in the levels below k
unfoldable pub entered : ℕ → ℕ → List ℕ → List ℕ
entered zero y t = t
entered (suc k) y t = set (entered k y t) (2 ^ k + y % 2 ^ k) (get_or (entered k y t) (2 ^ k + y % 2 ^ k) 0 + 1)

pub entered_more : (k y at : ℕ) (s t : List ℕ) → at ≡ 2 ^ k + y % 2 ^ k → s ≡ entered k y t → set s at (get_or s at 0 + 1) ≡ entered (k + 1) y t
unfolding entered
entered_more k y at s t a e = rw (e, a, add-one k)

length_entered : (k y : ℕ) (t : List ℕ) → length (entered k y t) ≡ length t
unfolding entered
length_entered zero y t = refl
length_entered (suc k) y t = simp (length-set, length_entered k y t)

double : (k : ℕ) → 2 ^ suc k ≡ 2 * 2 ^ k
double k = rw (pow-suc 2 k) (omega arith)

-- the levels below k have the indices below 2 ^ k
entered_above : (k y : ℕ) (t : List ℕ) (i : ℕ) → 2 ^ k ≤ i → get_or (entered k y t) i 0 ≡ get_or t i 0
unfolding entered
entered_above zero y t i h = refl
entered_above (suc k) y t i h =
    let d = double k in
    let m = mod-lt y (pow_pos k) in
    let ne : i ≢ 2 ^ k + y % 2 ^ k = λ e. omega arith in
    let le : 2 ^ k ≤ i = omega arith in
    rw get_or-set_other (entered_above k y t i le)

entered_here : (k y v : ℕ) (t : List ℕ) → v < 2 ^ k → 2 ^ k + v < length t
    → get_or (entered (suc k) y t) (2 ^ k + v) 0 ≡ cond (eqb v (y % 2 ^ k)) 1 0 + get_or t (2 ^ k + v) 0
unfolding entered
entered_here k y v t h l =
    bumped (entered k y t) (2 ^ k + y % 2 ^ k) (2 ^ k + v) (omega (arith, length_entered k y t))
    ∙ rw (eqb_shift (2 ^ k) v (y % 2 ^ k), entered_above k y t (2 ^ k + v) (omega arith))

-- the level k has the indices from 2 ^ k on
entered_below : (k y i : ℕ) (t : List ℕ) → i < 2 ^ k → get_or (entered (suc k) y t) i 0 ≡ get_or (entered k y t) i 0
unfolding entered
entered_below k y i t h =
    let ne : i ≢ 2 ^ k + y % 2 ^ k = λ e. omega arith in
    rw get_or-set_other

-- every level below k counts y
entered_level : (k y w v : ℕ) (t : List ℕ) → w < k → v < 2 ^ w → 2 ^ k ≤ length t
    → get_or (entered k y t) (2 ^ w + v) 0 ≡ cond (eqb v (y % 2 ^ w)) 1 0 + get_or t (2 ^ w + v) 0
entered_level zero y w v t l h n = absurd (not-suc-le-zero l)
entered_level (suc k) y w v t l h n =
    let d = double k in
    ⊎_elim
    {C = get_or (entered (suc k) y t) (2 ^ w + v) 0 ≡ cond (eqb v (y % 2 ^ w)) 1 0 + get_or t (2 ^ w + v) 0}
    (λ e.
    let h' : v < 2 ^ k = rw e at h in
    rw e (entered_here k y v t h' (omega arith)))
    (λ ne.
    let lt : w < k = omega arith in
    let p = pow_mono {i = suc w} {j = k} lt in
    let q = double w in
    entered_below k y (2 ^ w + v) t (omega arith) ∙ entered_level k y w v t lt h (omega arith))
    (cases_eq w k)

-- ---- what the counters count
pub counts_none : (r : ℕ) → Counts r [] (replicate (2 * 2 ^ r) 0)
unfolding alike
counts_none r =
    record {
      long = length-replicate (2 * 2 ^ r) 0;
      each = λ w v h l. let p = pow_mono {i = w} {j = r} h in get_or-replicate (2 * 2 ^ r) (2 ^ w + v) 0 0 (omega arith);
    }

pub counts_more : (r y w : ℕ) (ys t s : List ℕ) → w ≡ r + 1 → s ≡ entered w y t → Counts r ys t → Counts r (y ∷ ys) s
unfolding alike agree
counts_more r y w ys t s full e k =
    let d = double r in
    let f : s ≡ entered (suc r) y t = rw (← add-one r, ← full) e in
    record {
      long = ap length f ∙ length_entered (suc r) y t ∙ k.long;
      each =
          λ w v h l.
          rw (f, mod-eq_of_lt l, entered_level (suc r) y w v t (omega arith) l (omega (arith, k.long)), k.each w v h l);
    }

-- the order of the results does not matter
counts_moved : (r y : ℕ) (xs ys t : List ℕ) → Counts r (y ∷ (xs ++ ys)) t → Counts r ((xs ++ y ∷ []) ++ ys) t
unfolding alike
counts_moved r y xs ys t k =
    record {
      long = k.long;
      each =
          λ w v h l.
          k.each w v h l ∙ rw (alike-append w v xs ys, alike-append w v (xs ++ y ∷ []) ys, alike-append w v xs (y ∷ [])) (omega arith);
    }

pub entered_room : (r w y at : ℕ) (s t : List ℕ) → at ≡ 2 ^ w + y % 2 ^ w → w ≤ r → s ≡ entered w y t → Room r 1 t → get_or s at 0 + 1 < 2 ^ 32
entered_room r w y at s t p h e room =
    let a : get_or s at 0 ≡ get_or (entered w y t) (2 ^ w + y % 2 ^ w) 0 = rw (p, e) in
    let b = entered_above w y t (2 ^ w + y % 2 ^ w) (omega arith) in
    let c = looked r w y room.0 t (omega arith) room.1 in
    let d = alike_le w y room.0 in
    omega arith

-- ---- the results of a class, one after the other
-- of the class ms, the first i have been counted
abbrev pub Entered : ℕ → ℕ → List ℕ → ℕ → List ℕ → List ℕ → Type 0
Entered r d ms i before after = (ys : List ℕ) → Counts r ys before → Counts r (results d (take i ms) ++ ys) after

pub class_more : (r d : ℕ) (ms : List ℕ) (i : ℕ) (t u v : List ℕ) → i < length ms → Entered r d ms i t u
    → ((ys : List ℕ) → Counts r ys u → Counts r (bit_xor (get_or ms i 0) d ∷ ys) v) → Entered r d ms (i + 1) t v
class_more r d ms i t u v h so step =
    λ ys k.
    rw (map_more (λ m. bit_xor m d) ms i 0 h) (counts_moved r (bit_xor (get_or ms i 0) d) (results d (take i ms)) ys v (step (results d (take i ms) ++ ys) (so ys k)))

pub class_room : (r d : ℕ) (ms : List ℕ) (i : ℕ) (t u : List ℕ) → i < length ms → Room r (length ms) t → Entered r d ms i t u → Room r 1 u
class_room r d ms i t u h room so = (
  results d (take i ms) ++ room.0,
  so room.0 room.1,
  simp (length-append, length-map, length-take) (omega (arith, room.2)),
)
