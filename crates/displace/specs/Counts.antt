-- Counters of the results so far, by their lowest bits. Assumes nothing.
use Rattle.std.specs.Prelude.{◌≡◌, ℕ, ◌+◌, ◌*◌, ◌%◌, ◌^◌, ◌<◌, ◌≤◌, List, ◌++◌, map, length, sum_by, bit_xor, slice_index}
use Rattle.rule.specs.Choose.{alike, choose}

-- the counters count the results ys: index 2 ^ w + v has how many agree with v in their lowest w bits
pub record Counts (r : ℕ) (ys counters : List ℕ) : Type 0 where
  pub long : length counters ≡ 2 * 2 ^ r
  pub each : (w v : ℕ) → w ≤ r → v < 2 ^ w → slice_index counters (2 ^ w + v) ≡ alike w v ys

-- the counters count some results, and can take n more
abbrev pub Room : ℕ → ℕ → List ℕ → Type 0
Room r n counters = (ys : List ℕ) × Counts r ys counters × (length ys + n < 2 ^ 32)

-- the pairs that the counters show in w bits: for each member, displaced by d, the counter of its lowest bits
abbrev pub shown : ℕ → ℕ → List ℕ → List ℕ → ℕ
shown w d ms counters = sum_by (λ m. slice_index counters (2 ^ w + bit_xor m d % 2 ^ w)) ms

-- the results of a class whose moved numbers are ms, at the displacement d
abbrev pub results : ℕ → List ℕ → List ℕ
results d ms = map (λ m. bit_xor m d) ms

-- whatever results the counters count, d is what a class chooses over them, and its own results are counted after
abbrev pub Settles : ℕ → List ℕ → ℕ → List ℕ → List ℕ → Type 0
Settles r ms d before after = (ys : List ℕ) → Counts r ys before → (d ≡ choose r ms ys) × Counts r (results d ms ++ ys) after
