-- One round on two columns: row i is a member, with the class and the moved number that stand there. Assumes nothing.
use Rattle.std.specs.Prelude.{◌≡◌, ℕ, ◌+◌, ◌*◌, ◌^◌, ◌<◌, ◌≤◌, Bool, cond, List, ◌++◌, map, length, drop, MatchBool, slice_index}
use Rattle.std.specs.List.{zip, range_with_len}
use Rattle.rule.specs.Round.{of_class, displacement}

abbrev pub class_of : ℕ × ℕ → ℕ
class_of m = m.0

abbrev pub moved_of : ℕ × ℕ → ℕ
moved_of m = m.1

-- the moved numbers of class v, in the order of the rows
unfoldable pub group_of : ℕ → List ℕ → List ℕ → List ℕ
group_of v class moved = of_class class_of moved_of v (zip class moved)

-- the displacements of the classes 0, 1, .., 2 ^ r - 1
unfoldable pub displacements : ℕ → List ℕ → List ℕ → List ℕ
displacements r class moved = map (displacement class_of moved_of r (zip class moved)) (range_with_len 0 (2 ^ r))

-- every number is below n
abbrev pub Below : ℕ → List ℕ → Type 0
Below n xs = (i : ℕ) → i < length xs → slice_index xs i < n

-- the columns are equally long, and fit r
pub record ColumnsFit (r : ℕ) (class moved : List ℕ) : Type 0 where
  pub width : r ≤ 16
  pub equal : length moved ≡ length class
  pub few : length class ≤ 2 ^ r
  pub class_fits : Below (2 ^ r) class
  pub moved_fits : Below (2 ^ r) moved

-- a round can be made: the columns fit, and the lists out and work, of these lengths, are long enough;
-- work holds the counters, the last row of each class, the links of the rows, and the moved numbers of one class
pub record Ready (r : ℕ) (class moved : List ℕ) (out work : ℕ) : Type 0 where
  pub fit : ColumnsFit r class moved
  pub out_long : 2 ^ r ≤ out
  pub work_long : 3 * 2 ^ r + 2 * length class ≤ work

-- the answer is true exactly if P holds
abbrev pub Exactly : Bool → Type 0 → Type 0
Exactly a P = MatchBool a P (P → ⊥)

-- the list old with its first n written over by new, if done, else as it was
abbrev pub written : Bool → ℕ → List ℕ → List ℕ → List ℕ
written done n new old = cond done (new ++ drop n old) old
