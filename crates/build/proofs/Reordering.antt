-- Members in another order give the same index. Assumes nothing.
use Rattle.std.proofs.Common.{◌≡◌, ℕ, ◌^◌, List, ◌++◌, map, length, drop, Ok, Err, Result, sym, ap, ◌∙◌, subst, ap₂, arith}
use Rattle.std.specs.List.{range_with_len}
use Rattle.std.specs.List.Sorted.{IsPermutation}
use Rattle.std.proofs.lemmas.List.Sorted.{length_permutation, IsPermutation-sym}
use Rattle.fault.specs.declared.Fault.{Fault}
use Rattle.rule.specs.Places.{Apart, first, second, place}
use Rattle.rule.specs.Laws.{SameIndex}
use Rattle.rule.proofs.Laws.{order_free, bounded_eighth}
use Rattle.rule.proofs.Order.{fit_shuffled, distinct_shuffled}
use Rattle.slots.specs.declared.Slot.{Slot}
use Rattle.build.specs.declared.Member.{Member}
use Rattle.build.specs.Filled.{emptied, filled, refilled}
use Rattle.build.specs.Built.{half, answer, first_list, second_list, slot_list, Built}
use Rattle.build.specs.Laws.{Meets, SameAnswer, OrderFree}
use Rattle.build.proofs.Meeting.{lawful, meets_accepted}
use Rattle.build.proofs.Numbers.{refusals_same}
use Rattle.build.proofs.Written.{written_shuffled}

module _ {C V : Type 0} (front back : C → ℕ) (r : ℕ) (ms others : List (Member C V)) (shuffled : IsPermutation ms others) where
  same : SameIndex (half front) (half back) r ms others
  same = order_free (half front) (half back) r ms others shuffled

  first-same : (old : List ℕ) → first_list front back r ms old ≡ first_list front back r others old
  unfolding first_list
  first-same old = ap (λ (f : ℕ → ℕ). map f (range_with_len 0 (2 ^ r)) ++ drop (2 ^ r) old) (λ i v. same.0 v i)

  second-same : (old : List ℕ) → second_list front back r ms old ≡ second_list front back r others old
  unfolding second_list
  second-same old = ap (λ (f : ℕ → ℕ). map f (range_with_len 0 (2 ^ r)) ++ drop (2 ^ r) old) (λ i v. same.1 v i)

  module _ (first second slots work : ℕ) (meets : Meets front back r ms first second slots work) where
    meets_same : Meets front back r others first second slots work
    meets_same =
        let long = length_permutation ms others shuffled in
        record {
          low = meets.low;
          high = meets.high;
          first_long = meets.first_long;
          second_long = meets.second_long;
          slots_long = meets.slots_long;
          work_long = meets.work_long;
          some = omega (arith, meets.some);
          few = omega (arith, meets.few);
          fit = fit_shuffled ms others shuffled (half front) (half back) r meets.fit;
          distinct = distinct_shuffled ms others shuffled (half front) (half back) meets.distinct;
        }

    answer-same : answer front back r ms first second slots work ≡ answer front back r others first second slots work
    answer-same =
        meets_accepted front back r ms first second slots work meets
        ∙ ap₂ (λ (n pairs : ℕ). Ok (n, pairs)) (sym (length_permutation ms others shuffled)) same.4
        ∙ sym (meets_accepted front back r others first second slots work meets_same)

    slots_same : (old : List (Slot C V)) → slot_list front back r ms old ≡ slot_list front back r others old
    unfolding slot_list refilled
    slots_same old =
        let at = place (half front) (half back) r ms in
        let at' = place (half front) (half back) r others in
        let places : at ≡ at' = λ i m. same.3 m i in
        let apart : Apart (λ x y. at x ≡ at y) ms = (bounded_eighth (half front) (half back) r ms meets.fit meets.distinct meets.high meets.few).1 in
        let apart' : Apart (λ x y. at' x ≡ at' y) others = (bounded_eighth (half front) (half back) r others meets_same.fit meets_same.distinct meets_same.high meets_same.few).1 in
        written_shuffled at ms others (emptied (2 ^ r) old) shuffled apart
        (subst (λ (f : Member C V → ℕ). Apart (λ x y. f x ≡ f y) others) (sym places) apart')
        ∙ ap (λ (f : Member C V → ℕ). filled (map f others) others (emptied (2 ^ r) old)) places

-- ---- both outcomes
module _ {C V : Type 0} (front back : C → ℕ) (r : ℕ) (ms others : List (Member C V)) (shuffled : IsPermutation ms others)
    (first second : List ℕ) (slots : List (Slot C V)) (work : ℕ) (new_first new_second other_first other_second : List ℕ) (new_slots other_slots : List (Slot C V)) where
  outcomes_same : (a b : Result (ℕ × ℕ) Fault) → Built front back r ms first second slots work a new_first new_second new_slots
      → Built front back r others first second slots work b other_first other_second other_slots
      → SameAnswer a b × (new_first ≡ other_first) × (new_second ≡ other_second) × (new_slots ≡ other_slots)
  outcomes_same (Ok x) (Ok y) this that =
      let meets = (lawful front back r ms (length first) (length second) (length slots) work (Ok x) this.answers).0 in
      let e : ◌≡◌ {A = Result (ℕ × ℕ) Fault} (Ok x) (Ok y) = this.answers ∙ answer-same front back r ms others shuffled (length first) (length second) (length slots) work meets ∙ sym that.answers in
      let same_counts : x ≡ y = cc in (
        same_counts,
        this.first_is ∙ first-same front back r ms others shuffled first ∙ sym that.first_is,
        this.second_is ∙ second-same front back r ms others shuffled second ∙ sym that.second_is,
        this.slots_are ∙ slots_same front back r ms others shuffled (length first) (length second) (length slots) work meets slots ∙ sym that.slots_are,
      )
  outcomes_same (Ok x) (Err g) this that =
      let meets = (lawful front back r ms (length first) (length second) (length slots) work (Ok x) this.answers).0 in
      absurd (lawful front back r others (length first) (length second) (length slots) work (Err g) that.answers (meets_same front back r ms others shuffled (length first) (length second) (length slots) work meets))
  outcomes_same (Err f) (Ok y) this that =
      let meets = (lawful front back r others (length first) (length second) (length slots) work (Ok y) that.answers).0 in
      absurd (lawful front back r ms (length first) (length second) (length slots) work (Err f) this.answers
      (meets_same front back r others ms (IsPermutation-sym ms others shuffled) (length first) (length second) (length slots) work meets))
  outcomes_same (Err f) (Err g) this that = (
    refusals_same front back r ms others shuffled (length first) (length second) (length slots) work f g this.answers that.answers,
    this.first_is ∙ sym that.first_is,
    this.second_is ∙ sym that.second_is,
    this.slots_are ∙ sym that.slots_are,
  )

pub order_holds : {C V : Type 0} (front back : C → ℕ) (r : ℕ) (ms : List (Member C V)) (first second : List ℕ) (slots : List (Slot C V)) (work : ℕ)
    (a : Result (ℕ × ℕ) Fault) (new_first new_second : List ℕ) (new_slots : List (Slot C V)) → Built front back r ms first second slots work a new_first new_second new_slots
    → OrderFree front back r ms first second slots work a new_first new_second new_slots
order_holds front back r ms first second slots work a new_first new_second new_slots built others shuffled b other_first other_second other_slots other-built =
    outcomes_same front back r ms others shuffled first second slots work new_first new_second other_first other_second new_slots other_slots a b built other-built
