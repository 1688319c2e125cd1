-- The words that name a list, by the list's number.
use Rattle.std.proofs.Common.{◌≡◌, ℕ, List, ◌++◌, refl, lit<}
use Rattle.std.specs.Prelude.{codes, decimal}
use Rattle.std.proofs.lemmas.Fmt.{decimal_digit}
use Rattle.fault.specs.Table.{list_part, displacements_part}
use Rattle.fault.specs.Words.{short_list, large_displacement}
use Rattle.fault.specs.declared.Displacements.{Displacements}
use Rattle.fault.specs.declared.Displacements.TheVariants as displacements
use Rattle.fault.specs.declared.List as lists
use Rattle.fault.specs.declared.List.TheVariants as list

pub short_list_is : (l : lists.List) (rest : List ℕ) → short_list l ++ rest ≡ codes "list " ++ (decimal (list_part l) ++ (codes " is too short: " ++ rest))
short_list_is list.First rest = rw (decimal_digit 1 (lit< tt)) refl
short_list_is list.Second rest = rw (decimal_digit 2 (lit< tt)) refl
short_list_is list.Slots rest = rw (decimal_digit 3 (lit< tt)) refl
short_list_is list.Work rest = rw (decimal_digit 4 (lit< tt)) refl

pub large_displacement_is : (l : Displacements) (rest : List ℕ) → large_displacement l ++ rest ≡ codes "list " ++ (decimal (displacements_part l) ++ (codes " holds too large a displacement: index " ++ rest))
large_displacement_is displacements.First rest = rw (decimal_digit 1 (lit< tt)) refl
large_displacement_is displacements.Second rest = rw (decimal_digit 2 (lit< tt)) refl
