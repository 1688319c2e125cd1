-- How a displacement grows bit by bit. Assumes nothing.
use Rattle.std.proofs.Common.{◌≡◌, ℕ, ◌+◌, ◌-◌, ◌*◌, ◌^◌, ◌<◌, ◌≤◌, Bool, cond, ltb, List, sym, refl, ap, ◌∙◌, pow-suc, add-one, arith, pow_mono}
use Rattle.std.proofs.lemmas.Bool.{cond_both}
use Rattle.rule.specs.Choose.{count, pick, choose}
use Rattle.rule.proofs.Halving.{choose_settled}
use Rattle.displace.specs.Counts.{Counts, shown}
use Rattle.displace.proofs.Counting.{shown_is}

-- ---- bit by bit
pub choose-more : (k : ℕ) (ms ys : List ℕ) → choose (k + 1) ms ys ≡ pick k (choose k ms ys) ms ys
unfolding choose
choose-more k ms ys = ap (λ n. choose n ms ys) (add-one k)

-- ---- the loop
-- d has its lowest k bits chosen, whatever results the counters count
abbrev pub Chosen : ℕ → ℕ → ℕ → List ℕ → List ℕ → Type 0
Chosen r k d ms t = (d < 2 ^ k) × ((ys : List ℕ) → Counts r ys t → d ≡ choose k ms ys)

pub chosen_none : (r : ℕ) (ms t : List ℕ) → Chosen r 0 0 ms t
unfolding choose
chosen_none r ms t = (omega arith, λ ys counts. refl)

picked_within : (k d p : ℕ) (b : Bool) → p ≡ cond b (d + 2 ^ k) d → d < 2 ^ k → p < 2 ^ (k + 1)
picked_within k d p b e h =
    let two : 2 ^ (k + 1) ≡ 2 * 2 ^ k = rw (add-one k, pow-suc 2 k) (omega arith) in
    cond_both b (d + 2 ^ k) d (λ n. p ≡ n → p < 2 ^ (k + 1)) (λ _ f. omega arith) (λ _ f. omega arith) e

pub chosen_more : (r k d p : ℕ) (ms t : List ℕ) → k < r → Chosen r k d ms t
    → p ≡ cond (ltb (shown (k + 1) (d + 2 ^ k) ms t) (shown (k + 1) d ms t)) (d + 2 ^ k) d → Chosen r (k + 1) p ms t
unfolding pick
chosen_more r k d p ms t h so q = (
  picked_within k d p (ltb (shown (k + 1) (d + 2 ^ k) ms t) (shown (k + 1) d ms t)) q so.0,
  λ ys counts.
      let e = so.1 ys counts in
      let set = shown_is r (k + 1) (d + 2 ^ k) ms ys t (omega arith) counts in
      let clear = shown_is r (k + 1) d ms ys t (omega arith) counts in
      q ∙ rw (set, clear, e) (sym (choose-more k ms ys)),
)

-- no pair is left
pub chosen_early : (r k d : ℕ) (ms t : List ℕ) → k ≤ r → Chosen r k d ms t → shown k d ms t ≡ 0 → Chosen r r d ms t
chosen_early r k d ms t h so none =
    let p = pow_mono {i = k} {j = r} h in (
      omega (arith, so.0),
      λ ys counts.
          let e = so.1 ys counts in
          let left : count k (choose k ms ys) ms ys ≡ 0 = rw (← e) (sym (shown_is r k d ms ys t h counts) ∙ none) in
          let whole : k + (r - k) ≡ r = omega arith in
          e ∙ sym (choose_settled k (r - k) ms ys left).0 ∙ ap (λ n. choose n ms ys) whole,
    )
