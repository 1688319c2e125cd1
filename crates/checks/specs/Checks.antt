-- What is checked of members before a build: both halves of each fit, and no code comes twice. Assumes nothing.
use Rattle.std.specs.Prelude.{◌≡◌, ℕ, ◌+◌, ◌^◌, ◌<◌, ◌≤◌, Bool, false, cond, ◌&&◌, ◌||◌, List, [], ◌∷◌, ◌++◌, Some, None, Ok, Err, Option, Result, ◌==◌, nat_le}
use Rattle.std.specs.List.{zip}
use Rattle.fault.specs.declared.Fault.{Fault}
use Rattle.fault.specs.declared.Fault.TheVariants.{LargeHalf}
use Rattle.fault.specs.declared.Half.TheVariants.{Front, Back}

-- members of any kind, each with a front half and a back half
module _ {X : Type 0} (front back : X → ℕ) where
  -- the first half of n or more, where the members stand from a position on; of one member the front half comes first
  unfoldable pub large_half_of : ℕ → ℕ → List X → Option Fault
  large_half_of n position [] = None
  large_half_of n position (x ∷ xs) =
      cond (nat_le n (front x)) (Some (LargeHalf Front position)) (
      cond (nat_le n (back x)) (Some (LargeHalf Back position)) (
      large_half_of n (position + 1) xs))

  -- some member has the halves of x
  unfoldable pub among : X → List X → Bool
  among x [] = false
  among x (y ∷ ys) = (front y == front x && back y == back x) || among x ys

  -- the lowest position whose code came before, where the members stand from a position on, behind those seen
  unfoldable pub repeated : List X → ℕ → List X → Option ℕ
  repeated seen position [] = None
  repeated seen position (x ∷ xs) = cond (among x seen) (Some position) (repeated (seen ++ x ∷ []) (position + 1) xs)

-- both checks on two columns: row i is a member, with the front half and the back half that stand there
unfoldable pub large_in : ℕ → List ℕ → List ℕ → Option Fault
large_in n fronts backs = large_half_of (λ (x : ℕ × ℕ). x.0) (λ (x : ℕ × ℕ). x.1) n 0 (zip fronts backs)

unfoldable pub repeated_in : List ℕ → List ℕ → Option ℕ
repeated_in fronts backs = repeated (λ (x : ℕ × ℕ). x.0) (λ (x : ℕ × ℕ). x.1) [] 0 (zip fronts backs)

-- a check refuses by the fault that it finds, if there is one
abbrev pub refused : Option Fault → Result (Unit {0}) Fault
refused None = Ok tt
refused (Some fault) = Err fault

-- columns of these lengths are equal, and so short that positions fit 32 bits, and the lists lent to the search,
-- which holds buckets in one and a link for each position in the other, are long enough
pub record Room (fronts backs heads links : ℕ) : Type 0 where
  pub equal : backs ≡ fronts
  pub few : fronts < 2 ^ 32
  pub some_heads : 0 < heads
  pub enough_links : fronts ≤ links
