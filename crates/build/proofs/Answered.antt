-- The answer of the build. Assumes nothing.
use Rattle.std.proofs.Common.{◌≡◌, ℕ, ◌+◌, ◌*◌, ◌^◌, ◌≤◌, true, List, ◌++◌, length, drop, is_some, Some, None, Ok, Err, Option, Result, refl, ap, ◌∙◌, arith}
use Rattle.std.proofs.lemmas.List.{append-nil, drop_all}
use Rattle.fault.specs.declared.Fault.{Fault}
use Rattle.lists.specs.Size.{and_then}
use Rattle.rule.specs.Places.{shared_pairs_of}
use Rattle.build.specs.declared.Member.{Member}
use Rattle.build.specs.Checked.{counts_checked, codes_checked}
use Rattle.build.specs.Built.{half, answer}
use Rattle.build.specs.Steps.{pairs_answer}

-- ---- the answer of a build
module _ {C V : Type 0} (front back : C → ℕ) (r : ℕ) (ms : List (Member C V)) where
  -- with the number of members put before the pairs
  counted : Result ℕ Fault → Result (ℕ × ℕ) Fault
  counted a = and_then a (λ pairs. Ok (length ms, pairs))

  counted_pairs : (n : ℕ) → and_then (codes_checked (half front) (half back) n ms) (λ _. Ok (length ms, shared_pairs_of (half front) (half back) r ms)) ≡ counted (pairs_answer front back r ms n)
  unfolding counted pairs_answer
  counted_pairs n = passes (codes_checked (half front) (half back) n ms)
    where
      passes : (a : Result (Unit {0}) Fault) → and_then a (λ _. Ok (length ms, shared_pairs_of (half front) (half back) r ms)) ≡ counted (and_then a (λ _. Ok (shared_pairs_of (half front) (half back) r ms)))
      passes (Ok x) = refl
      passes (Err fault) = refl

  pub answer_counted : (first second slots work : ℕ) → answer front back r ms first second slots work
      ≡ and_then (counts_checked r (length ms) first second slots work) (λ n. and_then (pairs_answer front back r ms n) (λ pairs. Ok (length ms, pairs)))
  unfolding answer counted
  answer_counted first second slots work =
      ap (λ (next : ℕ → Result (ℕ × ℕ) Fault). and_then (counts_checked r (length ms) first second slots work) next) (λ i n. counted_pairs n i)
