-- Rows with the same number, counted one after the other. Assumes nothing.
use Rattle.std.proofs.Common.{◌≡◌, ℕ, suc, ◌+◌, ◌*◌, ◌<◌, ◌≤◌, cond, eqb, List, [], ◌∷◌, ◌++◌, length, get_or, take, set, replicate, refl, ap, ◌∙◌, arith}
use Rattle.std.proofs.lemmas.List.{take_more, length-set, length-take, get_or-replicate}
use Rattle.std.proofs.lemmas.Bool.{cond_both}
use Rattle.rule.specs.Places.{with_key, shared}
use Rattle.rule.proofs.Pairs.{eqb_sym}
use Rattle.displace.proofs.Counting.{bumped}
use Rattle.rounds.specs.Halves.{shared_rows}

-- how many of the rows hold v
unfoldable pub rows_with : ℕ → List ℕ → ℕ
rows_with v xs = with_key (λ (x : ℕ). x) v xs

rows_push : (v : ℕ) (xs : List ℕ) (y : ℕ) → rows_with v (xs ++ y ∷ []) ≡ rows_with v xs + cond (eqb y v) 1 0
unfolding rows_with with_key
rows_push v [] y = omega arith
rows_push v (x ∷ xs) y = let rest = rows_push v xs y in omega arith

shared_push : (xs : List ℕ) (y : ℕ) → shared_rows (xs ++ y ∷ []) ≡ shared_rows xs + rows_with y xs
unfolding shared_rows shared rows_with with_key
shared_push [] y = refl
shared_push (x ∷ xs) y =
    let rest = shared_push xs y in
    let more = rows_push x xs y in
    let flips = ap (λ b. cond {A = ℕ} b 1 0) (eqb_sym x y) in
    omega arith

rows_le : (v : ℕ) (xs : List ℕ) → rows_with v xs ≤ length xs
unfolding rows_with with_key
rows_le v [] = omega arith
rows_le v (x ∷ xs) =
    let rest = rows_le v xs in
    cond_both (eqb x v) 1 0 (λ n. n + with_key (λ (x : ℕ). x) v xs ≤ suc (length xs)) (λ _. omega arith) (λ _. omega arith)

-- ---- the loop
-- after i rows: each counter has how many of them hold its number, and sum has the shared pairs among them
pub record Counted (places : List ℕ) (i : ℕ) (counters : List ℕ) (sum : ℕ) : Type 0 where
  pub each : (v : ℕ) → v < length counters → get_or counters v 0 ≡ rows_with v (take i places)
  pub pairs : sum ≡ shared_rows (take i places)
  pub small : sum ≤ 65536 * i

pub counted_none : (places counters : List ℕ) → counters ≡ replicate (length counters) 0 → Counted places 0 counters 0
unfolding shared_rows shared rows_with with_key
counted_none places counters e =
    record {
      each = λ v h. ap (λ xs. get_or xs v 0) e ∙ get_or-replicate (length counters) v 0 0 h;
      pairs = refl;
      small = omega arith;
    }

pub counter_small : (places counters : List ℕ) (i v sum : ℕ) → length places ≤ 65536 → v < length counters → Counted places i counters sum → get_or counters v 0 ≤ 65536
counter_small places counters i v sum few h so =
    let a = so.each v h in
    let b = rows_le v (take i places) in
    let c = length-take i places in
    omega arith

pub counted_more : (places counters : List ℕ) (i sum : ℕ) → i < length places → length places ≤ 65536 → get_or places i 0 < length counters → Counted places i counters sum
    → Counted places (i + 1) (set counters (get_or places i 0) (get_or counters (get_or places i 0) 0 + 1)) (sum + get_or counters (get_or places i 0) 0)
counted_more places counters i sum l few h so =
    let p = get_or places i 0 in
    let next = take_more places i 0 l in
    record {
      each =
          λ v k.
          let k' : v < length counters = rw length-set at k in
          let here = bumped counters p v k' in
          let flips = ap (λ b. cond {A = ℕ} b 1 0) (eqb_sym v p) in
          let same = so.each v k' in
          rw (next, rows_push v (take i places) p) (omega arith);
      pairs = rw (next, shared_push (take i places) p) (omega (arith, so.pairs, so.each p h));
      small = let c = counter_small places counters i p sum few h so in omega (arith, so.small);
    }
