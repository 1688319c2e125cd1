-- The checks as loops over positions go through them. Assumes nothing.
use Rattle.std.specs.Prelude.{◌≡◌, ℕ, ◌-◌, ◌<◌, ◌≤◌, Bool, false, ◌&&◌, List, length, take, drop, Option, ◌==◌, ◌≢◌, bit_and, bit_xor, slice_index}
use Rattle.std.specs.List.{zip}
use Rattle.fault.specs.declared.Fault.{Fault}
use Rattle.checks.specs.Checks.{large_half_of, repeated}

-- the first half of n or more from position i on
unfoldable pub large_from : ℕ → List ℕ → List ℕ → ℕ → Option Fault
large_from n fronts backs i = large_half_of (λ (x : ℕ × ℕ). x.0) (λ (x : ℕ × ℕ). x.1) n i (drop i (zip fronts backs))

-- the bucket, of which there are some, for a code with these halves: equal codes have one bucket
abbrev pub bucket_of : ℕ → ℕ → ℕ → ℕ
bucket_of buckets front back = bit_and (bit_xor front back) (buckets - 1)

module _ (fronts backs : List ℕ) where
  -- the lowest repeated position from i on
  unfoldable pub repeated_from : ℕ → Option ℕ
  repeated_from i = repeated (λ (x : ℕ × ℕ). x.0) (λ (x : ℕ × ℕ). x.1) (take i (zip fronts backs)) i (drop i (zip fronts backs))

  -- the code with these halves stands at position j
  abbrev pub code_at : ℕ → ℕ → ℕ → Bool
  code_at j front back = slice_index fronts j == front && slice_index backs j == back

  -- positions j and i have the same code
  abbrev pub same_at : ℕ → ℕ → Bool
  same_at j i = code_at j (slice_index fronts i) (slice_index backs i)

  -- the bucket of position i
  unfoldable pub bucket_at : ℕ → ℕ → ℕ
  bucket_at buckets i = bucket_of buckets (slice_index fronts i) (slice_index backs i)

  -- row is one more than the last position below i in bucket v, or 0
  pub record Leads (buckets v row i : ℕ) : Type 0 where
    pub within : row ≤ i
    pub own : 0 < row → bucket_at buckets (row - 1) ≡ v
    pub skips : (k : ℕ) → row ≤ k → k < i → bucket_at buckets k ≢ v

  -- the positions below i are chained: heads lead to the last one of each bucket, links to the one before of the same bucket
  pub record Chained (heads links : List ℕ) (i : ℕ) : Type 0 where
    pub last : (v : ℕ) → v < length heads → Leads (length heads) v (slice_index heads v) i
    pub before : (j : ℕ) → j < i → Leads (length heads) (bucket_at (length heads) j) (slice_index links j) j

  -- on the way along the chain of i: from row on, no position below i has its code
  pub record Passed (buckets i row : ℕ) : Type 0 where
    pub within : row ≤ i
    pub own : 0 < row → bucket_at buckets (row - 1) ≡ bucket_at buckets i
    pub unlike : (k : ℕ) → row ≤ k → k < i → same_at k i ≡ false
