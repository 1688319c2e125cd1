-- A run as it goes on: one call more, and none left. Assumes nothing.
use Rattle.std.proofs.Common.{◌≡◌, ℕ, ◌+◌, ◌<◌, ◌≤◌, List, [], ◌∷◌, ◌++◌, length, get_or, take, drop, set, Result, sym, ap, ◌∙◌, arith}
use Rattle.std.proofs.lemmas.List.{append_assoc, drop_all, drop_more, drop-set-lt, take_more_set, take-append-drop}
use Rattle.fault.specs.declared.Fault.{Fault}
use Rattle.slots.specs.declared.Slot.{Slot}
use Rattle.ledger.specs.declared.Call.{Call}
use Rattle.ledger.specs.declared.Answer.{Answer}
use Rattle.ledger.specs.Run.{answer_to, answers_to, slots_after_call, slots_after_calls, answers_after}

-- slots and answers before call i: the calls from there on come to what all of them come to from the start
pub record Turning {C V : Type 0} (front_of back_of : C → ℕ) (r : ℕ) (first second : List ℕ) (calls : List (Call C V)) (old_slots : List (Slot C V)) (old_answers : List (Result (Answer V) Fault))
    (i : ℕ) (slots : List (Slot C V)) (answers : List (Result (Answer V) Fault)) : Type 0 where
  pub slots_are : slots_after_calls front_of back_of r first second slots (drop i calls) ≡ slots_after_calls front_of back_of r first second old_slots calls
  pub answers_are : take i answers ++ (answers_to front_of back_of r first second slots (drop i calls) ++ drop (length calls) answers) ≡ answers_after front_of back_of r first second old_slots calls old_answers

module _ {C V : Type 0} {front_of back_of : C → ℕ} {r : ℕ} {first second : List ℕ} {calls : List (Call C V)} {old_slots : List (Slot C V)} {old_answers : List (Result (Answer V) Fault)}
    {i : ℕ} {slots : List (Slot C V)} {answers : List (Result (Answer V) Fault)} (turning : Turning front_of back_of r first second calls old_slots old_answers i slots answers) where
  -- one call more
  pub turn : {call : Call C V} {slots' : List (Slot C V)} {answer : Result (Answer V) Fault} → i < length calls → length calls ≤ length answers → call ≡ get_or calls i call
      → slots' ≡ slots_after_call front_of back_of r first second slots call → answer ≡ answer_to front_of back_of r first second slots call
      → Turning front_of back_of r first second calls old_slots old_answers (i + 1) slots' (set answers i answer)
  unfolding slots_after_calls answers_to
  turn {call} {slots'} {answer} h room is after told =
      let left : drop i calls ≡ call ∷ drop (i + 1) calls = drop_more calls i call h ∙ ap (λ (c : Call C V). c ∷ drop (i + 1) calls) (sym is) in
      let one = take_more_set answers i answer (omega arith) in
      let rest = drop-set-lt (length calls) answers i answer h in
      let more = append_assoc (take i answers) (answer ∷ []) (answers_to front_of back_of r first second slots' (drop (i + 1) calls) ++ drop (length calls) answers) in
      record {
        slots_are = rw after (rw left at turning.slots_are);
        answers_are = rw (one, rest, more, told, after) (rw left at turning.answers_are);
      }

  -- none left
  pub slots_end : length calls ≤ i → slots ≡ slots_after_calls front_of back_of r first second old_slots calls
  unfolding slots_after_calls
  slots_end h = rw (drop_all i calls h) at turning.slots_are

  pub answers_end : i ≡ length calls → answers ≡ answers_after front_of back_of r first second old_slots calls old_answers
  unfolding answers_to
  answers_end e =
      let none : drop i calls ≡ [] = drop_all i calls (omega arith) in
      let behind : drop (length calls) answers ≡ drop i answers = ap (λ n. drop n answers) (sym e) in
      sym (take-append-drop i answers) ∙ rw (none, behind) at turning.answers_are
