-- The steps of a build. Assumes nothing.
use Rattle.std.specs.Prelude.{ℕ, List, ◌++◌, map, take, drop, Ok, Result}
use Rattle.fault.specs.declared.Fault.{Fault}
use Rattle.lists.specs.Size.{and_then}
use Rattle.rule.specs.Places.{shared_pairs_of}
use Rattle.slots.specs.declared.Slot.{Slot}
use Rattle.build.specs.declared.Member.{Member}
use Rattle.build.specs.Checked.{codes_checked}
use Rattle.build.specs.Built.{half}
use Rattle.build.specs.Filled.{filled}

-- the answer of a build whose counts are in order: the shared pairs, or the refusal of a code, in an index of size n
unfoldable pub pairs_answer : {C V : Type 0} (front back : C → ℕ) (r : ℕ) (ms : List (Member C V)) → ℕ → Result ℕ Fault
pairs_answer front back r ms n = and_then (codes_checked (half front) (half back) n ms) (λ _. Ok (shared_pairs_of (half front) (half back) r ms))

-- the halves of the members, in their order
unfoldable pub column : {C V : Type 0} → (C → ℕ) → List (Member C V) → List ℕ
column of ms = map (half of) ms

-- a column as it is written: the halves of the first i members, and what stood behind
abbrev pub column_to : {C V : Type 0} → (C → ℕ) → List (Member C V) → ℕ → List ℕ → List ℕ
column_to of ms i old = column of (take i ms) ++ drop i old

-- slots as they are filled: what is left to write from member i on
abbrev pub filled_from : {C V : Type 0} → List ℕ → List (Member C V) → ℕ → List (Slot C V) → List (Slot C V)
filled_from places ms i slots = filled (drop i places) (drop i ms) slots
