-- The rows of each class, linked from the last one to the first. A row is told by one more than its number. Assumes nothing.
use Rattle.std.specs.Prelude.{◌≡◌, ℕ, zero, suc, ◌<◌, cond, List, length, ◌==◌, slice_index}

-- one more than the last row below i whose class is v, or 0
unfoldable pub last_of : List ℕ → ℕ → ℕ → ℕ
last_of class v zero = 0
last_of class v (suc i) = cond (slice_index class i == v) (suc i) (last_of class v i)

-- each class has its last row among the first n
abbrev pub Headed : List ℕ → ℕ → List ℕ → Type 0
Headed class n heads = (v : ℕ) → v < length heads → slice_index heads v ≡ last_of class v n

-- each of the first n rows leads to the one before it of the same class
abbrev pub Linked : List ℕ → ℕ → List ℕ → Type 0
Linked class n links = (i : ℕ) → i < n → slice_index links i ≡ last_of class (slice_index class i) i
