-- What is refused before a build, in the order of the checks. Assumes nothing.
use Rattle.std.specs.Prelude.{ℕ, ◌*◌, List, [], Some, None, Ok, Err, Option, Result, ◌==◌, nat_lt}
use Rattle.fault.specs.declared.Fault.{Fault}
use Rattle.fault.specs.declared.Fault.TheVariants.{NoMembers, TooManyMembers, RepeatedCode}
use Rattle.lists.specs.Size.{refuse, and_then, checked_size_with_work_of}
use Rattle.checks.specs.Checks.{large_half_of, large_in, repeated, repeated_in}

-- the places that an index has for each member, at least
abbrev pub places_per_member : ℕ
places_per_member = 8

-- the size of the index, if the lists are long enough for it and it takes so many members
abbrev pub counts_checked : (r members first second slots work : ℕ) → Result ℕ Fault
counts_checked r members first second slots work =
    and_then (checked_size_with_work_of r first second slots work) (λ n.
    refuse (members == 0) NoMembers (
    refuse (nat_lt n (places_per_member * members)) (TooManyMembers members) (
    Ok n)))

-- the fault of a large half, else that of a repeated position, if there is one
abbrev pub halves_checked : Option Fault → Option ℕ → Result (Unit {0}) Fault
halves_checked (Some fault) position = Err fault
halves_checked None (Some position) = Err (RepeatedCode position)
halves_checked None None = Ok tt

-- the halves of the members fit n, and no code comes twice
unfoldable pub codes_checked : {X : Type 0} (front back : X → ℕ) → ℕ → List X → Result (Unit {0}) Fault
codes_checked front back n ms = halves_checked (large_half_of front back n 0 ms) (repeated front back [] 0 ms)

-- the same of two columns of halves
unfoldable pub columns_checked : ℕ → List ℕ → List ℕ → Result (Unit {0}) Fault
columns_checked n fronts backs = halves_checked (large_in n fronts backs) (repeated_in fronts backs)
