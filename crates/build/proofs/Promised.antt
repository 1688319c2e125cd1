-- What a build promises, from its steps. Assumes nothing.
use Rattle.std.proofs.Common.{◌≡◌, ℕ, List, length, Ok, Err, Result, sym, ap, ◌∙◌}
use Rattle.fault.specs.declared.Fault.{Fault}
use Rattle.lists.specs.Size.{and_then}
use Rattle.slots.specs.declared.Slot.{Slot}
use Rattle.build.specs.declared.Member.{Member}
use Rattle.build.specs.Checked.{counts_checked}
use Rattle.build.specs.Built.{if_ok, first_list, second_list, slot_list, answer, Built}
use Rattle.build.specs.Laws.{Lawful, OrderFree}
use Rattle.build.specs.Steps.{pairs_answer}
use Rattle.build.proofs.Answered.{answer_counted}
use Rattle.build.proofs.Meeting.{lawful}
use Rattle.build.proofs.Reordering.{order_holds}

module _ {C V : Type 0} (front back : C → ℕ) (r : ℕ) (ms : List (Member C V)) (first second : List ℕ) (slots : List (Slot C V)) (work : ℕ) where
  -- the outcome, with what follows from it
  pub record Promised (a : Result (ℕ × ℕ) Fault) (new_first new_second : List ℕ) (new_slots : List (Slot C V)) : Type 0 where
    pub built : Built front back r ms first second slots work a new_first new_second new_slots
    pub law : Lawful front back r ms (length first) (length second) (length slots) work a
    pub order : OrderFree front back r ms first second slots work a new_first new_second new_slots

  promised : (a : Result (ℕ × ℕ) Fault) (new_first new_second : List ℕ) (new_slots : List (Slot C V)) → Built front back r ms first second slots work a new_first new_second new_slots
      → Promised a new_first new_second new_slots
  promised a new_first new_second new_slots built =
      record {
        built = built;
        law = lawful front back r ms (length first) (length second) (length slots) work a built.answers;
        order = order_holds front back r ms first second slots work a new_first new_second new_slots built;
      }

  -- the answer, from that of the counts
  answer_from : (k : Result ℕ Fault) → k ≡ counts_checked r (length ms) (length first) (length second) (length slots) work
      → answer front back r ms (length first) (length second) (length slots) work ≡ and_then k (λ n. and_then (pairs_answer front back r ms n) (λ pairs. Ok (length ms, pairs)))
  answer_from k e =
      answer_counted front back r ms (length first) (length second) (length slots) work
      ∙ ap (λ (k : Result ℕ Fault). and_then k (λ n. and_then (pairs_answer front back r ms n) (λ pairs. Ok (length ms, pairs)))) (sym e)

  -- the counts are refused
  pub uncounted : (a : Result (ℕ × ℕ) Fault) (fault : Fault) → a ≡ Err fault → Err fault ≡ counts_checked r (length ms) (length first) (length second) (length slots) work → Promised a first second slots
  uncounted a fault is e =
      promised a first second slots (
      record {
        answers = is ∙ sym (answer_from (Err fault) e);
        first_is = ap (λ (b : Result (ℕ × ℕ) Fault). if_ok b (first_list front back r ms first) first) (sym is);
        second_is = ap (λ (b : Result (ℕ × ℕ) Fault). if_ok b (second_list front back r ms second) second) (sym is);
        slots_are = ap (λ (b : Result (ℕ × ℕ) Fault). if_ok b (slot_list front back r ms slots) slots) (sym is);
      })

  -- the counts are accepted
  module _ (n : ℕ) (e : Ok n ≡ counts_checked r (length ms) (length first) (length second) (length slots) work) (new_first new_second : List ℕ) (new_slots : List (Slot C V)) where
    answer_then : (k : Result ℕ Fault) → k ≡ pairs_answer front back r ms n → answer front back r ms (length first) (length second) (length slots) work ≡ and_then k (λ pairs. Ok (length ms, pairs))
    answer_then k p = answer_from (Ok n) e ∙ ap (λ (k : Result ℕ Fault). and_then k (λ pairs. Ok (length ms, pairs))) (sym p)

    pub refused_code : (a : Result (ℕ × ℕ) Fault) (fault : Fault) → a ≡ Err fault → Err fault ≡ pairs_answer front back r ms n → new_first ≡ first → new_second ≡ second → new_slots ≡ slots
        → Promised a new_first new_second new_slots
    refused_code a fault is p f s l =
        promised a new_first new_second new_slots (
        record {
          answers = is ∙ sym (answer_then (Err fault) p);
          first_is = f ∙ ap (λ (b : Result (ℕ × ℕ) Fault). if_ok b (first_list front back r ms first) first) (sym is);
          second_is = s ∙ ap (λ (b : Result (ℕ × ℕ) Fault). if_ok b (second_list front back r ms second) second) (sym is);
          slots_are = l ∙ ap (λ (b : Result (ℕ × ℕ) Fault). if_ok b (slot_list front back r ms slots) slots) (sym is);
        })

    pub made : (pairs : ℕ) → Ok pairs ≡ pairs_answer front back r ms n → new_first ≡ first_list front back r ms first → new_second ≡ second_list front back r ms second
        → new_slots ≡ slot_list front back r ms slots → Promised (Ok (length ms, pairs)) new_first new_second new_slots
    made pairs p f s l =
        promised (Ok (length ms, pairs)) new_first new_second new_slots (record { answers = sym (answer_then (Ok pairs) p); first_is = f; second_is = s; slots_are = l })
