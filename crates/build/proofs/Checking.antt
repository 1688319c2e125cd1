-- What the checks of the columns come to. Assumes nothing.
use Rattle.std.proofs.Common.{◌≡◌, ℕ, List, Some, None, Ok, Err, Option, refl}
use Rattle.std.specs.Option.{option_map}
use Rattle.fault.specs.declared.Fault.{Fault}
use Rattle.fault.specs.declared.Fault.TheVariants.{RepeatedCode}
use Rattle.checks.specs.Checks.{large_in, refused, repeated_in}
use Rattle.build.specs.Checked.{halves_checked, columns_checked}

module _ (n : ℕ) (fronts backs : List ℕ) where
  pub large_refused : (fault : Fault) → Err fault ≡ refused (large_in n fronts backs) → Err fault ≡ columns_checked n fronts backs
  unfolding columns_checked
  large_refused fault e = refuses (large_in n fronts backs) e
    where
      refuses : (large : Option Fault) → Err fault ≡ refused large → Err fault ≡ halves_checked large (repeated_in fronts backs)
      refuses (Some found) e = e
      refuses None e = absurd cc

  pub repeated_refused : Ok tt ≡ refused (large_in n fronts backs) → columns_checked n fronts backs ≡ refused (option_map RepeatedCode (repeated_in fronts backs))
  unfolding columns_checked
  repeated_refused e = passes (large_in n fronts backs) (repeated_in fronts backs) e
    where
      passes : (large : Option Fault) (twice : Option ℕ) → Ok tt ≡ refused large → halves_checked large twice ≡ refused (option_map RepeatedCode twice)
      passes (Some found) twice e = absurd cc
      passes None (Some position) e = refl
      passes None None e = refl
