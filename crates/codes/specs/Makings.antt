-- What it means to make a code from two halves, or an entry from a number.
use Rattle.std.specs.Prelude.{◌≡◌, ℕ, Some, None, Option, ◌≢◌}

-- None if no code has the halves f and b, and a code only if it has them.
abbrev pub MadeCode : {C : Type 0} → (C → ℕ) → (C → ℕ) → ℕ → ℕ → Option C → Type 0
MadeCode {C} front back f b None = (x : C) → front x ≡ f → back x ≢ b
MadeCode front back f b (Some x) = (front x ≡ f) × (back x ≡ b)

-- None if no entry has the number n, and an entry only if it has it.
abbrev pub MadeEntry : {V : Type 0} → (V → ℕ) → ℕ → Option V → Type 0
MadeEntry {V} number n None = (x : V) → number x ≢ n
MadeEntry number n (Some x) = number x ≡ n
