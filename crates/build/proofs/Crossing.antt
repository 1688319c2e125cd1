-- What holds of the columns of halves, said of the members. Assumes nothing.
use Rattle.std.proofs.Common.{◌≡◌, ℕ, zero, suc, ◌^◌, ◌<◌, ◌≤◌, List, [], ◌∷◌, ◌++◌, map, length, drop, Some, None, Ok, Err, Option, Result, sym, refl, ap, ◌∙◌, subst, ap₂, not-suc-le-zero, arith}
use Rattle.std.specs.List.{zip, range_with_len}
use Rattle.std.proofs.lemmas.List.{length-map}
use Rattle.fault.specs.declared.Fault.{Fault}
use Rattle.lists.specs.Size.{and_then}
use Rattle.rule.specs.Places.{Each, Fit, first, second, place, shared_pairs_of}
use Rattle.rule.proofs.Columns.{first-map, second-map, place_map, shared_pairs-map}
use Rattle.rule.proofs.Each.{each_with}
use Rattle.rule.proofs.Rounds.{places_fit}
use Rattle.displace.specs.Columns.{Below, ColumnsFit}
use Rattle.rounds.specs.Halves.{front_of, back_of, firsts, seconds, places_of, pairs_of}
use Rattle.checks.specs.Checks.{large_half_of, large_in, repeated, repeated_in}
use Rattle.checks.proofs.Large.{none_large_fit, large_map}
use Rattle.checks.proofs.Repeating.{repeated-map}
use Rattle.slots.specs.declared.Slot.{Slot}
use Rattle.build.specs.declared.Member.{Member}
use Rattle.build.specs.Checked.{halves_checked, codes_checked, columns_checked}
use Rattle.build.specs.Built.{half, first_list, second_list, slot_list}
use Rattle.build.specs.Filled.{emptied, filled, refilled}
use Rattle.build.specs.Steps.{pairs_answer, column}

map_over : {X Y Z : Type 0} (g : Y → Z) (h : X → Y) (k : X → Z) → ((x : X) → g (h x) ≡ k x) → (xs : List X) → map g (map h xs) ≡ map k xs
map_over g h k e [] = refl
map_over g h k e (x ∷ xs) = ap₂ ◌∷◌ (e x) (map_over g h k e xs)

below-map : {X : Type 0} (f : X → ℕ) (n : ℕ) (xs : List X) → Each (λ x. f x < n) xs → Below n (map f xs)
unfolding Each
below-map f n [] h i l = absurd (not-suc-le-zero l)
below-map f n (x ∷ xs) h zero l = h.0
below-map f n (x ∷ xs) h (suc i) l = below-map f n xs h.1 i (omega arith)

-- an accepted check found nothing
pub none_found : (large : Option Fault) (twice : Option ℕ) → halves_checked large twice ≡ Ok tt → (large ≡ None) × (twice ≡ None)
none_found (Some fault) twice e = absurd cc
none_found None (Some position) e = absurd cc
none_found None None e = (refl, refl)

module _ {C V : Type 0} (front back : C → ℕ) (r : ℕ) (ms : List (Member C V)) where
  halves : Member C V → ℕ × ℕ
  halves m = (half front m, half back m)

  rows : (xs : List (Member C V)) → zip (column front xs) (column back xs) ≡ map halves xs
  unfolding column halves
  rows [] = refl
  rows (m ∷ xs) = ap (λ zs. halves m ∷ zs) (rows xs)

  firsts_are : firsts r (column front ms) (column back ms) ≡ map (first (half front) (half back) r ms) (range_with_len 0 (2 ^ r))
  unfolding firsts halves
  firsts_are =
      ap (λ zs. map (first front_of back_of r zs) (range_with_len 0 (2 ^ r))) (rows ms)
      ∙ ap (λ (f : ℕ → ℕ). map f (range_with_len 0 (2 ^ r))) (λ i v. first-map halves front_of back_of r ms v i)

  seconds_are : seconds r (column front ms) (column back ms) ≡ map (second (half front) (half back) r ms) (range_with_len 0 (2 ^ r))
  unfolding seconds halves
  seconds_are =
      ap (λ zs. map (second front_of back_of r zs) (range_with_len 0 (2 ^ r))) (rows ms)
      ∙ ap (λ (f : ℕ → ℕ). map f (range_with_len 0 (2 ^ r))) (λ i v. second-map halves front_of back_of r ms v i)

  places_are : places_of r (column front ms) (column back ms) ≡ map (place (half front) (half back) r ms) ms
  unfolding places_of halves
  places_are =
      ap (λ zs. map (place front_of back_of r zs) zs) (rows ms)
      ∙ map_over (place front_of back_of r (map halves ms)) halves (place (half front) (half back) r ms) (place_map halves front_of back_of r ms) ms

  pairs_are : pairs_of r (column front ms) (column back ms) ≡ shared_pairs_of (half front) (half back) r ms
  unfolding pairs_of halves
  pairs_are = ap (λ zs. shared_pairs_of front_of back_of r zs) (rows ms) ∙ shared_pairs-map halves front_of back_of r ms

  large_is : (n : ℕ) → large_in n (column front ms) (column back ms) ≡ large_half_of (half front) (half back) n 0 ms
  unfolding large_in halves
  large_is n = ap (large_half_of front_of back_of n 0) (rows ms) ∙ large_map halves front_of back_of n 0 ms

  repeated_is : repeated_in (column front ms) (column back ms) ≡ repeated (half front) (half back) [] 0 ms
  unfolding repeated_in halves
  repeated_is = ap (repeated front_of back_of [] 0) (rows ms) ∙ repeated-map halves front_of back_of 0 ms

  checks_are : (n : ℕ) → columns_checked n (column front ms) (column back ms) ≡ codes_checked (half front) (half back) n ms
  unfolding codes_checked columns_checked
  checks_are n = ap₂ halves_checked (large_is n) repeated_is

  module _ (checked : columns_checked (2 ^ r) (column front ms) (column back ms) ≡ Ok tt) where
    fits : Fit (half front) (half back) r ms
    unfolding columns_checked
    fits = none_large_fit (half front) (half back) r 0 ms (sym (large_is (2 ^ r)) ∙ (none_found _ _ checked).0)

    columns_fit : r ≤ 16 → length ms ≤ 2 ^ r → ColumnsFit r (column front ms) (column back ms)
    unfolding column Fit
    columns_fit width few =
        let fl = length-map ms (half front) in
        let bl = length-map ms (half back) in
        record {
          width = width;
          equal = omega arith;
          few = omega arith;
          class_fits = below-map (half front) (2 ^ r) ms (each_with (λ m h. h.0) ms fits);
          moved_fits = below-map (half back) (2 ^ r) ms (each_with (λ m h. h.1) ms fits);
        }

    places_within : (n : ℕ) → 2 ^ r ≤ n → Below n (places_of r (column front ms) (column back ms))
    places_within n h i l =
        let below = below-map (place (half front) (half back) r ms) (2 ^ r) ms (places_fit (half front) (half back) r ms fits) in
        let here : Below (2 ^ r) (places_of r (column front ms) (column back ms)) = subst (λ (xs : List ℕ). Below (2 ^ r) xs) (sym places_are) below in
        omega (arith, here i l)

  pub answers_are : (n : ℕ) → pairs_answer front back r ms n ≡ and_then (columns_checked n (column front ms) (column back ms)) (λ _. Ok (pairs_of r (column front ms) (column back ms)))
  unfolding pairs_answer
  answers_are n =
      ap₂ (λ (a : Result (Unit {0}) Fault) (pairs : ℕ). and_then a (λ _. Ok pairs)) (sym (checks_are n)) (sym pairs_are)

  pub first_list_lem : (old : List ℕ) → firsts r (column front ms) (column back ms) ++ drop (2 ^ r) old ≡ first_list front back r ms old
  unfolding first_list
  first_list_lem old = ap (λ (xs : List ℕ). xs ++ drop (2 ^ r) old) firsts_are

  pub second_list_lem : (old : List ℕ) → seconds r (column front ms) (column back ms) ++ drop (2 ^ r) old ≡ second_list front back r ms old
  unfolding second_list
  second_list_lem old = ap (λ (xs : List ℕ). xs ++ drop (2 ^ r) old) seconds_are

  pub slot_list_lem : (slots : List (Slot C V)) → filled (places_of r (column front ms) (column back ms)) ms (emptied (2 ^ r) slots) ≡ slot_list front back r ms slots
  unfolding slot_list refilled
  slot_list_lem slots = ap (λ places. filled places ms (emptied (2 ^ r) slots)) places_are

-- what columns of halves that pass the checks give is what the members give, in an index of size n
pub record Crossed {C V : Type 0} (front back : C → ℕ) (r n : ℕ) (ms : List (Member C V)) (fronts backs : List ℕ) : Type 0 where
  pub fit : ColumnsFit r fronts backs
  pub answer : Ok (pairs_of r fronts backs) ≡ pairs_answer front back r ms n
  pub first_is : (old : List ℕ) → firsts r fronts backs ++ drop (2 ^ r) old ≡ first_list front back r ms old
  pub second_is : (old : List ℕ) → seconds r fronts backs ++ drop (2 ^ r) old ≡ second_list front back r ms old
  pub within : (k : ℕ) → n ≤ k → Below k (places_of r fronts backs)
  pub slots_are : (slots : List (Slot C V)) → filled (places_of r fronts backs) ms (emptied n slots) ≡ slot_list front back r ms slots

module _ {C V : Type 0} (front back : C → ℕ) (r n : ℕ) (ms : List (Member C V)) (fronts backs : List ℕ)
    (size : n ≡ 2 ^ r) (f : fronts ≡ column front ms) (b : backs ≡ column back ms) where
  answers : pairs_answer front back r ms n ≡ and_then (columns_checked n fronts backs) (λ _. Ok (pairs_of r fronts backs))
  answers = rw (f, b) (answers_are front back r ms n)

  pub refused : (fault : Fault) → Err fault ≡ columns_checked n fronts backs → Err fault ≡ pairs_answer front back r ms n
  refused fault e = sym (answers ∙ ap (λ (a : Result (Unit {0}) Fault). and_then a (λ _. Ok (pairs_of r fronts backs))) (sym e))

  pub crossed : r ≤ 16 → length ms ≤ n → Ok tt ≡ columns_checked n fronts backs → Crossed front back r n ms fronts backs
  crossed width few e =
      let checked : columns_checked (2 ^ r) (column front ms) (column back ms) ≡ Ok tt = rw (← size, ← f, ← b) (sym e) in
      record {
        fit = rw (f, b) (columns_fit front back r ms checked width (omega arith));
        answer = ap (λ (a : Result (Unit {0}) Fault). and_then a (λ _. Ok (pairs_of r fronts backs))) e ∙ sym answers;
        first_is = λ old. rw (f, b) (first_list_lem front back r ms old);
        second_is = λ old. rw (f, b) (second_list_lem front back r ms old);
        within = λ k h. rw (f, b) (places_within front back r ms checked k (omega arith));
        slots_are = λ slots. rw (f, b, size) (slot_list_lem front back r ms slots);
      }
