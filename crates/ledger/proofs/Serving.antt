-- The ledger law of a run on an index that is built first. Assumes nothing.
use Rattle.std.proofs.Common.{◌≡◌, ℕ, List, ◌++◌, length, Ok, Result}
use Rattle.fault.specs.declared.Fault.{Fault}
use Rattle.slots.specs.declared.Slot.{Slot}
use Rattle.build.specs.declared.Member.{Member}
use Rattle.build.specs.Built.{slot_list, Built}
use Rattle.build.specs.Laws.{Lawful}
use Rattle.ledger.specs.declared.Call.{Call}
use Rattle.ledger.specs.declared.Answer.{Answer}
use Rattle.ledger.specs.Run.{answers_to, slots_after_calls}
use Rattle.ledger.specs.Law.{Kept}
use Rattle.ledger.proofs.Running.{kept_by}
use Rattle.ledger.proofs.Starting.{built_mirrors}

-- a run on what an accepted build leaves keeps the law, from the members
pub serve_keeps : {C V : Type 0} {front_of back_of : C → ℕ} (law : (x y : C) → front_of x ≡ front_of y → back_of x ≡ back_of y → x ≡ y) {r : ℕ} {ms : List (Member C V)}
    {old_first old_second : List ℕ} {old_slots : List (Slot C V)} {work : ℕ} {counts : ℕ × ℕ} {first second : List ℕ} {slots : List (Slot C V)}
    → Built front_of back_of r ms old_first old_second old_slots work (Ok counts) first second slots → Lawful front_of back_of r ms (length old_first) (length old_second) (length old_slots) work (Ok counts)
    → {calls : List (Call C V)} (rest : List (Result (Answer V) Fault)) {answers : List (Result (Answer V) Fault)} {new_slots : List (Slot C V)}
    → new_slots ≡ slots_after_calls front_of back_of r first second slots calls → answers ≡ answers_to front_of back_of r first second slots calls ++ rest
    → Kept front_of back_of r first second (slot_list front_of back_of r ms old_slots) ms calls answers new_slots
serve_keeps {front_of} {back_of} law {r} {ms} {old_first} {old_second} {old_slots} {work} built meets rest es ea =
    let slots_are = built.slots_are in
    kept_by law rest (rw (← slots_are) es) (rw (← slots_are) ea) ms
    (rw (built.first_is, built.second_is) (built_mirrors front_of back_of law r ms old_first old_second old_slots work meets.0 meets.1))
