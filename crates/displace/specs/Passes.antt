-- The classes as they are taken, in passes over all of them. Assumes nothing.
use Rattle.std.specs.Prelude.{◌≡◌, ℕ, ◌+◌, ◌^◌, ◌<◌, Bool, List, length, slice_index}
use Rattle.std.specs.List.{zip}
use Rattle.rule.specs.Choose.{choose}
use Rattle.rule.specs.Round.{falling, keep, behind, taken}
use Rattle.displace.specs.Columns.{class_of, moved_of, group_of}
use Rattle.displace.specs.Counts.{Counts}

-- the results of the classes cs, taken from the last of the list to the first
unfoldable pub results_of : ℕ → List ℕ → List ℕ → List ℕ → List ℕ
results_of r class moved cs = taken class_of moved_of r (zip class moved) cs

-- the counters count the results of the classes cs, and out has the displacement that each class chooses after those taken before it
pub record Taken (r : ℕ) (class moved cs counters out : List ℕ) : Type 0 where
  pub counted : Counts r (results_of r class moved cs) counters
  pub displaced : (v : ℕ) → v < length out → slice_index out v ≡ choose r (group_of v class moved) (results_of r class moved (behind v cs))

-- some classes have been taken, and one pass over all classes finds room
abbrev pub Passable : ℕ → (class moved counters out : List ℕ) → Type 0
Passable r class moved counters out =
    (cs : List ℕ) × Taken r class moved cs counters out × (length (results_of r class moved cs) + length class < 2 ^ 32)

-- a test of a number of members answers what takes gives
abbrev pub Tests : (ℕ → Bool → Type 0) → (ℕ → Bool) → Type 0
Tests Gives takes = (n : ℕ) (b : Bool) → n < 2 ^ 32 → Gives n b → b ≡ takes n

-- the classes below n whose number of members passes the test, the last one first
unfoldable pub passing : (ℕ → Bool) → List ℕ → List ℕ → ℕ → List ℕ
passing test class moved n = keep (λ c. test (length (group_of c class moved))) (falling n)
