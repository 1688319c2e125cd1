-- The laws of specs/Laws.antt. Assumes nothing.
use Rattle.std.proofs.Common.{ℕ, ◌*◌, ◌^◌, ◌≤◌, List, length, arith}
use Rattle.rule.specs.Places.{Fit, Distinct}
use Rattle.rule.specs.Laws.{InRange, Bounded, OrderFree}
use Rattle.rule.proofs.Rounds.{first_lt, second_lt, first_places-fit, places_fit, pairs_bound, places_apart}
use Rattle.rule.proofs.Order.{first_shuffled, second_shuffled, first_place_shuffled, place_shuffled, shared_pairs_shuffled}

module _ {X : Type 0} (front back : X → ℕ) (r : ℕ) (xs : List X) where
  pub in_range : Fit front back r xs → InRange front back r xs
  in_range fit = (first_lt front back r xs, second_lt front back r xs, first_places-fit front back r xs fit, places_fit front back r xs fit)

  -- where the members have five times their number of places
  pub bounded : Fit front back r xs → Distinct front back xs → r ≤ 16 → 5 * length xs ≤ 2 ^ r → Bounded front back r xs
  bounded fit distinct width room = (pairs_bound front back r xs fit distinct, places_apart front back r xs fit distinct width room)

  -- where they have eight times their number
  pub bounded_eighth : Fit front back r xs → Distinct front back xs → r ≤ 16 → 8 * length xs ≤ 2 ^ r → Bounded front back r xs
  bounded_eighth fit distinct width room = bounded fit distinct width (omega arith)

  pub order_free : OrderFree front back r xs
  order_free ys h = (
    first_shuffled xs ys h front back r,
    second_shuffled xs ys h front back r,
    first_place_shuffled xs ys h front back r,
    place_shuffled xs ys h front back r,
    shared_pairs_shuffled xs ys h front back r,
  )
