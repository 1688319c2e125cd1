-- One call on slots that mirror a ledger: its answer is the one asked for, and the slots mirror the ledger that is fed the call. Assumes nothing.
use Rattle.std.proofs.Common.{◌≡◌, ℕ, suc, ◌+◌, ◌^◌, ◌<◌, ◌≤◌, Bool, true, false, cond, not, ◌&&◌, List, [], ◌∷◌, map, length, set, Some, None, Ok, Err, Option, Result, is_ok, sym, refl, ap, ◌∙◌, ⊎_elim, arith}
use Rattle.std.specs.List.{slice_get}
use Rattle.std.proofs.lemmas.List.{length-map}
use Rattle.std.proofs.lemmas.Bool.Decides.{nat_tests}
use Rattle.std.proofs.lemmas.Bool.{cases_Bool, cond-true, cond-false, cond_both, and_parts, le-leb, lt-leb, not-true, not-false}
use Rattle.fault.specs.declared.Fault.{Fault}
use Rattle.fault.specs.declared.Fault.TheVariants as fault
use Rattle.fault.specs.declared.Half.TheVariants.{Front, Back}
use Rattle.lists.specs.Size.{and_then}
use Rattle.rule.specs.Places.{Each, Apart, Fit, Distinct}
use Rattle.rule.proofs.Each.{each_with}
use Rattle.slots.specs.declared.Slot.{Slot}
use Rattle.slots.specs.Calls.{holds_code, look_up_at, replace_at, remove_at, insert_at, answer_of, slots_after, renewed, emptied, filled}
use Rattle.build.specs.declared.Member.{Member}
use Rattle.build.specs.Built.{half}
use Rattle.ledger.specs.declared.Call.{Call}
use Rattle.ledger.specs.declared.Call.TheVariants.{Lookup, Replace, Remove, Insert}
use Rattle.ledger.specs.declared.Answer.{Answer}
use Rattle.ledger.specs.declared.Answer.TheVariants.{LookedUp, Replaced, Removed, Inserted}
use Rattle.ledger.specs.Run.{answer_to, slots_after_call, told}
use Rattle.ledger.specs.Ledger.{same_code, place_for, entry_in, with_entry, without, fed, taken, asked, if_fits, lookup_asked, replace_asked, remove_asked, insert_asked}
use Rattle.ledger.proofs.Entries.{entry_here, entry_behind, same_itself, same_halves, halves_same, renewed-same, renewed_other, without-same, without_other, each-renewed, each-without, distinct-renewed, distinct_without, without-length, none-same}
use Rattle.ledger.proofs.Placing.{place_fits, by_slot}
use Rattle.ledger.proofs.Mirror.{hold, hold_other, Mirrors, write_keeps}

module _ {C X : Type 0} (front_of back_of : C → ℕ) where
  -- what is asked where a half is too large, and where both fit
  ask_front : (r : ℕ) (code : C) (rest : Result X Fault) → 2 ^ r ≤ front_of code → if_fits front_of back_of r code rest ≡ Err (fault.LargeHalf Front 0)
  ask_front r code rest h = cond-true _ _ _ (le-leb (2 ^ r) (front_of code) h)

  ask_back : (r : ℕ) (code : C) (rest : Result X Fault) → front_of code < 2 ^ r → 2 ^ r ≤ back_of code → if_fits front_of back_of r code rest ≡ Err (fault.LargeHalf Back 0)
  ask_back r code rest f h = cond-false _ _ _ (lt-leb (2 ^ r) (front_of code) f) ∙ cond-true _ _ _ (le-leb (2 ^ r) (back_of code) h)

  pub ask_fits : (r : ℕ) (code : C) (rest : Result X Fault) → front_of code < 2 ^ r → back_of code < 2 ^ r → if_fits front_of back_of r code rest ≡ rest
  ask_fits r code rest f b = cond-false _ _ _ (lt-leb (2 ^ r) (front_of code) f) ∙ cond-false _ _ _ (lt-leb (2 ^ r) (back_of code) b)

-- ---- which places are taken
module _ {C V : Type 0} (front_of back_of : C → ℕ) (r : ℕ) (first second : List ℕ) where
  -- a code of the ledger has its place taken
  taken_by : (ledger : List (Member C V)) (code : C) (entry : V) → entry_in front_of back_of ledger code ≡ Some entry → taken front_of back_of first second ledger (place_for front_of back_of first second code) ≡ true
  unfolding entry_in taken
  taken_by [] code entry is = cc
  taken_by (m ∷ ledger) code entry is = grind (arith, nat_tests, taken_by ledger code entry)

  -- a place that is taken has its slot full
  module _ (slots : List (Slot C V)) (place : ℕ) (slot : Slot C V) (is : slice_get slots place ≡ Some slot) where
    full_by : (ledger : List (Member C V))
        → Each (λ m. (entry : V) × (hold front_of back_of (slice_get slots (place_for front_of back_of first second m.code)) m.code ≡ Some entry)) ledger
        → taken front_of back_of first second ledger place ≡ true → slot.full ≡ true
    unfolding taken Each
    full_by [] found t = cc
    full_by (m ∷ ledger) found t =
        let held = found.0.1 in
        grind (arith, nat_tests, is, full_by ledger found.1)

-- both of two facts hold of each
pub each_both : {X : Type 0} (P Q : X → Type 0) (xs : List X) → Each P xs → Each Q xs → Each (λ x. P x × Q x) xs
unfolding Each
each_both P Q [] p q = tt
each_both P Q (x ∷ xs) p q = ((p.0, q.0), each_both P Q xs p.1 q.1)

-- the ledger has an entry for each of its codes
pub each-found : {C V : Type 0} (front_of back_of : C → ℕ) (ledger : List (Member C V)) → Each (λ m. (entry : V) × (entry_in front_of back_of ledger m.code ≡ Some entry)) ledger
unfolding Each
each-found front_of back_of [] = tt
each-found {C} {V} front_of back_of (x ∷ ledger) = (
  (x.entry, entry_here front_of back_of x ledger x.code (same_itself front_of back_of x.code)),
  each_with (λ m found.
      ⊎_elim {C = (entry : V) × (entry_in front_of back_of (x ∷ ledger) m.code ≡ Some entry)}
      (λ same. (x.entry, entry_here front_of back_of x ledger m.code same))
      (λ other. (found.0, entry_behind front_of back_of x ledger m.code other ∙ found.1))
      (cases_Bool (same_code front_of back_of x.code m.code))) ledger (each-found front_of back_of ledger),
)

module _ {C V : Type 0} {front_of back_of : C → ℕ} {r : ℕ} {first second : List ℕ} {slots : List (Slot C V)} {ledger : List (Member C V)} (mirrors : Mirrors front_of back_of r first second slots ledger) where
  -- each code of the ledger is in the slot at its place
  pub each_held : Each (λ m. (entry : V) × (hold front_of back_of (slice_get slots (place_for front_of back_of first second m.code)) m.code ≡ Some entry)) ledger
  unfolding Fit
  each_held =
      each_with (λ m both. (both.1.0, mirrors.same m.code both.0.0 both.0.1 ∙ both.1.1)) ledger
      (each_both _ _ ledger mirrors.fit (each-found front_of back_of ledger))

  -- a slot of the index is full exactly if its place is taken
  slot-taken : (place : ℕ) (slot : Slot C V) → place < 2 ^ r → slice_get slots place ≡ Some slot → slot.full ≡ taken front_of back_of first second ledger place
  slot-taken place slot h is =
      ⊎_elim {C = slot.full ≡ taken front_of back_of first second ledger place}
      (λ full.
      let home = mirrors.sound.at_home place slot h is full in
      let holds : hold front_of back_of (slice_get slots (place_for front_of back_of first second slot.code)) slot.code ≡ Some slot.entry =
      ap (λ (s : Option (Slot C V)). hold front_of back_of s slot.code) (ap (slice_get slots) home.place_is ∙ is)
      ∙ cond-true _ _ _ (ap (λ (b : Bool). b && same_code front_of back_of slot.code slot.code) full ∙ same_itself front_of back_of slot.code) in
      let in_ledger = sym (mirrors.same slot.code home.front_fits home.back_fits) ∙ holds in
      full ∙ sym (ap (taken front_of back_of first second ledger) (sym home.place_is) ∙ taken_by front_of back_of r first second ledger slot.code slot.entry in_ledger))
      (λ empty.
      ⊎_elim {C = slot.full ≡ taken front_of back_of first second ledger place}
      (λ t. full_by front_of back_of r first second slots place slot is ledger each_held t ∙ sym t)
      (λ t. empty ∙ sym t)
      (cases_Bool (taken front_of back_of first second ledger place)))
      (cases_Bool slot.full)

-- a call's answer is the one asked for, and the slots after it mirror the ledger that is fed the call
abbrev pub Stepped : {C V : Type 0} (front_of back_of : C → ℕ) (r : ℕ) (first second : List ℕ) (ledger : List (Member C V)) → Call C V → Result (Answer V) Fault → List (Slot C V) → Type 0
Stepped front_of back_of r first second ledger call answer slots' =
    (answer ≡ asked front_of back_of r first second ledger call) × Mirrors front_of back_of r first second slots' (fed front_of back_of call (is_ok answer) ledger)

-- ---- the calls with a code that fits, at its slot
module _ {C V : Type 0} {front_of back_of : C → ℕ} (law : (x y : C) → front_of x ≡ front_of y → back_of x ≡ back_of y → x ≡ y) {r : ℕ} {first second : List ℕ} {slots : List (Slot C V)} {ledger : List (Member C V)} (mirrors : Mirrors front_of back_of r first second slots ledger)
    (code : C) (front_fits : front_of code < 2 ^ r) (back_fits : back_of code < 2 ^ r) (slot : Slot C V) (is : slice_get slots (place_for front_of back_of first second code) ≡ Some slot) where
  -- what the ledger has for the code, by whether the slot holds it
  entry_is : (b : Bool) → holds_code front_of back_of code slot ≡ b → entry_in front_of back_of ledger code ≡ cond b (Some slot.entry) None
  entry_is b h = sym (mirrors.same code front_fits back_fits) ∙ ap (λ (s : Option (Slot C V)). hold front_of back_of s code) is ∙ ap (λ (b : Bool). cond b (Some slot.entry) None) h

  -- the slot holds the code
  module _ (h : holds_code front_of back_of code slot ≡ true) where
    parts : (slot.full ≡ true) × (same_code front_of back_of slot.code code ≡ true)
    parts = and_parts slot.full (same_code front_of back_of slot.code code) h

    code_is : slot.code ≡ code
    code_is = let halves = same_halves front_of back_of slot.code code parts.1 in law slot.code code halves.0 halves.1

    was : (other : C) → same_code front_of back_of code other ≡ false → hold front_of back_of (Some slot) other ≡ None
    was other ne = hold_other front_of back_of code other slot (λ _. code_is) ne

    replace-found : (entry : V) → Stepped front_of back_of r first second ledger (Replace code entry) (Ok (Replaced slot.entry)) (set slots (place_for front_of back_of first second code) (renewed entry slot))
    unfolding Fit
    replace-found entry = (
      sym (ask_fits front_of back_of r code _ front_fits back_fits ∙ ap (replace_asked front_of back_of first second code) (entry_is true h)),
      write_keeps law mirrors code front_fits back_fits slot (renewed entry slot) is (λ _. code_is) was
          (map (with_entry front_of back_of code entry) ledger)
          (cond-true _ _ _ h ∙ sym (renewed-same front_of back_of code entry slot.entry ledger (entry_is true h)))
          (λ other ne. renewed_other front_of back_of code entry ledger other ne)
          (each-renewed front_of back_of _ code entry ledger (λ m k. k) mirrors.fit)
          (distinct-renewed front_of back_of code entry ledger mirrors.distinct)
          (omega (arith, length-map ledger (with_entry front_of back_of code entry))),
    )

    remove-found : Stepped front_of back_of r first second ledger (Remove code) (Ok (Removed slot.entry)) (set slots (place_for front_of back_of first second code) (emptied slot))
    unfolding Fit
    remove-found = (
      sym (ask_fits front_of back_of r code _ front_fits back_fits ∙ ap (remove_asked front_of back_of first second code) (entry_is true h)),
      write_keeps law mirrors code front_fits back_fits slot (emptied slot) is (λ _. code_is) was
          (without front_of back_of code ledger)
          (sym (without-same front_of back_of code ledger))
          (λ other ne. without_other front_of back_of code ledger other ne)
          (each-without front_of back_of _ code ledger mirrors.fit)
          (distinct_without front_of back_of code ledger mirrors.distinct)
          (ap (λ (b : Bool). length (without front_of back_of code ledger) + cond b 1 0) parts.0 ∙ omega (arith, without-length front_of back_of code slot.entry ledger mirrors.distinct (entry_is true h))),
    )

    lookup-found : Stepped front_of back_of r first second ledger (Lookup code) (Ok (LookedUp (Some (place_for front_of back_of first second code, slot.entry)))) slots
    lookup-found = (sym (ask_fits front_of back_of r code _ front_fits back_fits ∙ ap (lookup_asked front_of back_of first second code) (entry_is true h)), mirrors)

    insert-found : (entry : V) → Stepped front_of back_of r first second ledger (Insert code entry) (Err (fault.Found (place_for front_of back_of first second code))) slots
    insert-found entry =
        (sym (ask_fits front_of back_of r code _ front_fits back_fits ∙ ap (insert_asked front_of back_of first second code (taken front_of back_of first second ledger (place_for front_of back_of first second code))) (entry_is true h)), mirrors)

  -- the slot does not hold the code
  module _ (h : holds_code front_of back_of code slot ≡ false) where
    replace_missing : (entry : V) → Stepped front_of back_of r first second ledger (Replace code entry) (Err (fault.NotFound (place_for front_of back_of first second code))) slots
    replace_missing entry = (sym (ask_fits front_of back_of r code _ front_fits back_fits ∙ ap (replace_asked front_of back_of first second code) (entry_is false h)), mirrors)

    remove_missing : Stepped front_of back_of r first second ledger (Remove code) (Err (fault.NotFound (place_for front_of back_of first second code))) slots
    remove_missing = (sym (ask_fits front_of back_of r code _ front_fits back_fits ∙ ap (remove_asked front_of back_of first second code) (entry_is false h)), mirrors)

    lookup_missing : Stepped front_of back_of r first second ledger (Lookup code) (Ok (LookedUp None)) slots
    lookup_missing = (sym (ask_fits front_of back_of r code _ front_fits back_fits ∙ ap (lookup_asked front_of back_of first second code) (entry_is false h)), mirrors)

    -- what an insert is to answer, by whether the slot is full
    insert_asked_lem : (entry : V) (full : Bool) → slot.full ≡ full
        → asked front_of back_of r first second ledger (Insert code entry) ≡ cond full (Err (fault.PlaceTaken (place_for front_of back_of first second code))) (Ok (Inserted (place_for front_of back_of first second code)))
    insert_asked_lem entry full e =
        let within = place_fits mirrors.sound (front_of code) (back_of code) front_fits back_fits in
        let mark = sym (slot-taken mirrors (place_for front_of back_of first second code) slot within is) ∙ e in
        ask_fits front_of back_of r code _ front_fits back_fits
        ∙ ap (insert_asked front_of back_of first second code (taken front_of back_of first second ledger (place_for front_of back_of first second code))) (entry_is false h)
        ∙ ap (λ (b : Bool). cond b (Err (fault.PlaceTaken (place_for front_of back_of first second code))) (Ok (Inserted (place_for front_of back_of first second code)))) mark

    insert-taken : (entry : V) → slot.full ≡ true → Stepped front_of back_of r first second ledger (Insert code entry) (Err (fault.PlaceTaken (place_for front_of back_of first second code))) slots
    insert-taken entry full = (sym (insert_asked_lem entry true full), mirrors)

    insert_free : (entry : V) → slot.full ≡ false → Stepped front_of back_of r first second ledger (Insert code entry) (Ok (Inserted (place_for front_of back_of first second code))) (set slots (place_for front_of back_of first second code) (filled code entry))
    unfolding Fit Distinct Apart Each
    insert_free entry empty = (
      sym (insert_asked_lem entry false empty),
      write_keeps law mirrors code front_fits back_fits slot (filled code entry) is (λ _. refl)
          (λ other ne. ap (λ (b : Bool). cond (b && same_code front_of back_of slot.code other) (Some slot.entry) None) empty)
          (record { code = code; entry = entry } ∷ ledger)
          (cond-true _ _ _ (same_itself front_of back_of code) ∙ sym (entry_here front_of back_of _ ledger code (same_itself front_of back_of code)))
          (λ other ne. entry_behind front_of back_of _ ledger other ne)
          ((front_fits, back_fits), mirrors.fit)
          (each_with (λ m ne same. apart m ne same) ledger (none-same front_of back_of ledger code (entry_is false h)), mirrors.distinct)
          (ap (λ (b : Bool). suc (length ledger) + cond b 1 0) empty ∙ omega arith),
    )
      where
        apart : (m : Member C V) → same_code front_of back_of m.code code ≡ false → (front_of code ≡ half front_of m) × (back_of code ≡ half back_of m) → ⊥
        apart m ne same = cc (halves_same front_of back_of m.code code (sym same.0) (sym same.1))

-- ---- every call
module _ {C V : Type 0} {front_of back_of : C → ℕ} (law : (x y : C) → front_of x ≡ front_of y → back_of x ≡ back_of y → x ≡ y) {r : ℕ} {first second : List ℕ} {slots : List (Slot C V)} {ledger : List (Member C V)} (mirrors : Mirrors front_of back_of r first second slots ledger) where
  pub step : (call : Call C V) → Stepped front_of back_of r first second ledger call (answer_to front_of back_of r first second slots call) (slots_after_call front_of back_of r first second slots call)
  step (Lookup code) =
      by_slot mirrors.sound code
      (λ q. Stepped front_of back_of r first second ledger (Lookup code) (told LookedUp (and_then q (look_up_at front_of back_of code))) slots)
      (λ f. (sym (ask_front front_of back_of r code _ f), mirrors))
      (λ f b. (sym (ask_back front_of back_of r code _ f b), mirrors))
      (λ slot f b is.
      cond_both (holds_code front_of back_of code slot) (Ok (Some (place_for front_of back_of first second code, slot.entry))) (Ok None)
      (λ a. Stepped front_of back_of r first second ledger (Lookup code) (told LookedUp a) slots)
      (lookup-found law mirrors code f b slot is)
      (lookup_missing law mirrors code f b slot is))
  step (Replace code entry) =
      by_slot mirrors.sound code
      (λ q. let a = and_then q (replace_at front_of back_of code entry) in Stepped front_of back_of r first second ledger (Replace code entry) (told Replaced (answer_of a)) (slots_after slots a))
      (λ f. (sym (ask_front front_of back_of r code _ f), mirrors))
      (λ f b. (sym (ask_back front_of back_of r code _ f b), mirrors))
      (λ slot f b is.
      cond_both (not (holds_code front_of back_of code slot)) (Err (fault.NotFound (place_for front_of back_of first second code))) _
      (λ a. Stepped front_of back_of r first second ledger (Replace code entry) (told Replaced (answer_of a)) (slots_after slots a))
      (λ e. replace_missing law mirrors code f b slot is (not-true _ e) entry)
      (λ e. replace-found law mirrors code f b slot is (not-false _ e) entry))
  step (Remove code) =
      by_slot mirrors.sound code
      (λ q. let a = and_then q (remove_at front_of back_of code) in Stepped front_of back_of r first second ledger (Remove code) (told Removed (answer_of a)) (slots_after slots a))
      (λ f. (sym (ask_front front_of back_of r code _ f), mirrors))
      (λ f b. (sym (ask_back front_of back_of r code _ f b), mirrors))
      (λ slot f b is.
      cond_both (not (holds_code front_of back_of code slot)) (Err (fault.NotFound (place_for front_of back_of first second code))) _
      (λ a. Stepped front_of back_of r first second ledger (Remove code) (told Removed (answer_of a)) (slots_after slots a))
      (λ e. remove_missing law mirrors code f b slot is (not-true _ e))
      (λ e. remove-found law mirrors code f b slot is (not-false _ e)))
  step (Insert code entry) =
      by_slot mirrors.sound code
      (λ q. let a = and_then q (insert_at front_of back_of code entry) in Stepped front_of back_of r first second ledger (Insert code entry) (told Inserted (answer_of a)) (slots_after slots a))
      (λ f. (sym (ask_front front_of back_of r code _ f), mirrors))
      (λ f b. (sym (ask_back front_of back_of r code _ f b), mirrors))
      (λ slot f b is.
      cond_both (holds_code front_of back_of code slot) (Err (fault.Found (place_for front_of back_of first second code))) _
      (λ a. Stepped front_of back_of r first second ledger (Insert code entry) (told Inserted (answer_of a)) (slots_after slots a))
      (λ h. insert-found law mirrors code f b slot is h entry)
      (λ h.
      cond_both slot.full (Err (fault.PlaceTaken (place_for front_of back_of first second code))) _
      (λ a. Stepped front_of back_of r first second ledger (Insert code entry) (told Inserted (answer_of a)) (slots_after slots a))
      (insert-taken law mirrors code f b slot is h entry)
      (insert_free law mirrors code f b slot is h entry)))
