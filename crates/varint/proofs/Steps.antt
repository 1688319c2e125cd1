-- Reading group after group. Assumes nothing.
use Rattle.std.proofs.Common.{◌≡◌, ℕ, zero, suc, ◌+◌, ◌-◌, ◌*◌, ◌%◌, ◌^◌, ◌<◌, ◌≤◌, Bool, true, nat_lt, List, ◌∷◌, length, get_or, drop, Ok, Err, Result, sym, refl, ap, ◌∙◌, ⊎_elim, mul-le-mul_right, arith}
use native.Mathlib.Nat.{one-le-pow, pow-le-pow_right}
use Rattle.std.proofs.lemmas.List.{drop_more, drop_all}
use Rattle.std.proofs.lemmas.Bool.{cases_lt, lt-ltb, ltb-true}
use Rattle.std.proofs.lemmas.Nat.{pow-add}
use Rattle.std.proofs.Math.Nat.{mod-eq_of_lt}
use Rattle.fault.specs.declared.Fault.{Fault}
use Rattle.fault.specs.declared.Fault.TheVariants.{EndOfBytes, MalformedNumber}
use Rattle.varint.specs.Width.{more_groups, top_group, numbers}
use Rattle.varint.specs.Groups.{Reading, ended, malformed, number, before, lastly, reading}
use Rattle.varint.proofs.Forms.{reading-end, reading-last, reading-more, reading_top, reading-high, lastly-number}

-- the answer at an offset, where the k groups before hold sum and the bytes behind them read as r
abbrev pub joined : List ℕ → ℕ → ℕ → ℕ → Reading → Result (ℕ × ℕ) Fault
joined bytes at k sum ended = Err (EndOfBytes (length bytes))
joined bytes at k sum malformed = Err (MalformedNumber at)
joined bytes at k sum (number n len) = Ok (sum + n * 2 ^ (7 * k), at + k + len)

-- the same, where the bytes at the offset are given
abbrev pub ahead : List ℕ → ℕ → List ℕ → ℕ → ℕ → Result (ℕ × ℕ) Fault
ahead bytes at groups k sum = joined bytes at k sum (reading (more_groups - k) (nat_lt 0 k) (drop k groups))

-- behind the last byte
pub ends : (bytes : List ℕ) (at : ℕ) (groups : List ℕ) (k sum : ℕ) → length groups ≤ k → ahead bytes at groups k sum ≡ Err (EndOfBytes (length bytes))
ends bytes at groups k sum h =
    ap (joined bytes at k sum) (ap (reading (more_groups - k) (nat_lt 0 k)) (drop_all k groups h) ∙ reading-end (more_groups - k) (nat_lt 0 k))

-- a group read by its value, whether or not others may follow it
reading_over : (left : ℕ) (later : Bool) (b : ℕ) (bs : List ℕ) → left ≡ 0 → top_group < b → reading left later (b ∷ bs) ≡ malformed
reading_over zero later b bs e h = reading-high later b bs h
reading_over (suc left) later b bs e h = absurd (omega arith)

reading-padded : (left b : ℕ) (bs : List ℕ) → b ≡ 0 → reading left true (b ∷ bs) ≡ malformed
reading-padded zero b bs e = reading_top true b bs (omega arith) ∙ ap (lastly true) e
reading-padded (suc left) b bs e = reading-last left true b bs (omega arith) ∙ ap (lastly true) e

reading_one : (left : ℕ) (later : Bool) (b : ℕ) (bs : List ℕ) → b < 128 → (left ≡ 0 → b ≤ top_group) → (later ≡ true → 0 < b) → reading left later (b ∷ bs) ≡ number b 1
reading_one zero later b bs low top some = reading_top later b bs (top refl) ∙ lastly-number later b some
reading_one (suc left) later b bs low top some = reading-last left later b bs low ∙ lastly-number later b some

reading_on : (left : ℕ) (later : Bool) (b : ℕ) (bs : List ℕ) → 0 < left → 128 ≤ b → b < 256 → reading left later (b ∷ bs) ≡ before b (reading (left - 1) true bs)
reading_on zero later b bs some high byte = absurd (omega arith)
reading_on (suc left) later b bs some high byte =
    let one : left ≡ suc left - 1 = omega arith in
    reading-more left later b bs high byte ∙ ap (λ k. before b (reading k true bs)) one

-- a group read in its place
split : (bytes : List ℕ) (at : ℕ) (groups : List ℕ) (k sum : ℕ) → k < length groups → ahead bytes at groups k sum ≡ joined bytes at k sum (reading (more_groups - k) (nat_lt 0 k) (get_or groups k 0 ∷ drop (k + 1) groups))
split bytes at groups k sum h = ap (λ l. joined bytes at k sum (reading (more_groups - k) (nat_lt 0 k) l)) (drop_more groups k 0 h)

-- a group too large for the last
pub too_large : (bytes : List ℕ) (at : ℕ) (groups : List ℕ) (k sum : ℕ) → k < length groups → k ≡ more_groups → top_group < get_or groups k 0 → ahead bytes at groups k sum ≡ Err (MalformedNumber at)
too_large bytes at groups k sum h last big =
    split bytes at groups k sum h ∙ ap (joined bytes at k sum) (reading_over (more_groups - k) (nat_lt 0 k) (get_or groups k 0) (drop (k + 1) groups) (omega arith) big)

-- a 0 behind another group
pub padded : (bytes : List ℕ) (at : ℕ) (groups : List ℕ) (k sum : ℕ) → k < length groups → 0 < k → get_or groups k 0 ≡ 0 → ahead bytes at groups k sum ≡ Err (MalformedNumber at)
padded bytes at groups k sum h later none =
    let rest = get_or groups k 0 ∷ drop (k + 1) groups in
    split bytes at groups k sum h ∙ ap (λ l. joined bytes at k sum (reading (more_groups - k) l rest)) (lt-ltb 0 k later) ∙ ap (joined bytes at k sum) (reading-padded (more_groups - k) (get_or groups k 0) (drop (k + 1) groups) none)

-- a group with none behind it
pub last_group : (bytes : List ℕ) (at : ℕ) (groups : List ℕ) (k sum : ℕ) → k < length groups → get_or groups k 0 < 128 → (k ≡ more_groups → get_or groups k 0 ≤ top_group) → (0 < k → 0 < get_or groups k 0) → k ≤ more_groups → ahead bytes at groups k sum ≡ Ok (sum + get_or groups k 0 * 2 ^ (7 * k), at + k + 1)
last_group bytes at groups k sum h low top some few =
    split bytes at groups k sum h ∙ ap (joined bytes at k sum) (reading_one (more_groups - k) (nat_lt 0 k) (get_or groups k 0) (drop (k + 1) groups) low (λ e. top (omega arith)) (λ e. some (ltb-true 0 k e)))

-- the groups behind a group are worth 128 times as much
joined-before : (bytes : List ℕ) (at k sum b : ℕ) (r : Reading) → joined bytes at k sum (before b r) ≡ joined bytes at (k + 1) (sum + b % 128 * 2 ^ (7 * k)) r
joined-before bytes at k sum b ended = refl
joined-before bytes at k sum b malformed = refl
joined-before bytes at k sum b (number n len) =
    let more : 7 * (k + 1) ≡ 7 * k + 7 = omega arith in
    let worth : sum + (b % 128 + 128 * n) * 2 ^ (7 * k) ≡ sum + b % 128 * 2 ^ (7 * k) + n * 2 ^ (7 * (k + 1)) = rw (more, pow-add 2 (7 * k) 7) (omega arith) in
    let where' : at + k + (len + 1) ≡ at + (k + 1) + len = omega arith in
    λ i. Ok (worth i, where' i)

-- a group with others behind it
pub next_group : (bytes : List ℕ) (at : ℕ) (groups : List ℕ) (k sum : ℕ) → k < length groups → k < more_groups → 128 ≤ get_or groups k 0 → get_or groups k 0 < 256 → ahead bytes at groups k sum ≡ ahead bytes at groups (k + 1) (sum + get_or groups k 0 % 128 * 2 ^ (7 * k))
next_group bytes at groups k sum h few high byte =
    let b = get_or groups k 0 in
    let rest = drop (k + 1) groups in
    let left : more_groups - k - 1 ≡ more_groups - (k + 1) = omega arith in
    let J = joined bytes at (k + 1) (sum + b % 128 * 2 ^ (7 * k)) in
    split bytes at groups k sum h ∙
    ap (joined bytes at k sum) (reading_on (more_groups - k) (nat_lt 0 k) b rest (omega arith) high byte) ∙
    joined-before bytes at k sum b (reading (more_groups - k - 1) true rest) ∙
    (λ i. J (reading (left i) (sym (lt-ltb 0 (k + 1) (omega arith)) i) rest))

-- the groups so far are worth less than one of the next
pub low_more : (k group sum : ℕ) → sum < 2 ^ (7 * k) → group < 128 → sum + group * 2 ^ (7 * k) < 2 ^ (7 * (k + 1))
low_more k group sum low small =
    let more : 7 * (k + 1) ≡ 7 * k + 7 = omega arith in
    let most = mul-le-mul_right {m = group} {n = 127} (2 ^ (7 * k)) (omega arith) in
    rw (more, pow-add 2 (7 * k) 7) (omega arith)

-- a group in its place is within the width
group_below : (k group : ℕ) → k ≤ more_groups → (k ≡ more_groups → group ≤ top_group) → group < 128 → group * 2 ^ (7 * k) < numbers
group_below k group few top low =
    ⊎_elim
    (λ some.
    let next = low_more k group 0 (one-le-pow (7 * k) 2 (omega arith)) low in
    let most = pow-le-pow_right {n = 2} (omega arith) {i = 7 * (k + 1)} {j = 7 * more_groups} (omega arith) in
    omega arith)
    (λ none.
    let last : k ≡ more_groups = omega arith in
    let place = ap (λ j. 2 ^ (7 * j)) last in
    let most = mul-le-mul_right {m = group} {n = top_group} (2 ^ (7 * k)) (top last) in
    omega arith)
    (cases_lt k more_groups)

pub group_fits : (k group : ℕ) → k ≤ more_groups → (k ≡ more_groups → group ≤ top_group) → group < 128 → group * 2 ^ (7 * k) % numbers ≡ group * 2 ^ (7 * k)
group_fits k group few top low = mod-eq_of_lt (group_below k group few top low)

-- one step of a reading
pub ruleset group_steps = (too_large, padded, last_group, next_group, ends, low_more, group_fits)
