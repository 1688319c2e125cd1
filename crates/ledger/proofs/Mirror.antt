-- Slots that mirror a ledger, and that they go on to do so when a slot is written. Assumes nothing.
use Rattle.std.proofs.Common.{◌≡◌, ℕ, ◌+◌, ◌^◌, ◌<◌, true, false, cond, List, length, take, set, Some, None, Option, sym, ap, ◌∙◌, subst, ⊎_elim, arith}
use Rattle.std.specs.List.{slice_get}
use Rattle.std.proofs.lemmas.List.{length-set}
use Rattle.std.proofs.lemmas.Bool.Decides.{nat_tests}
use Rattle.std.proofs.lemmas.Bool.{cases_Bool, cases_eq}
use Rattle.rule.specs.Places.{Fit, Distinct}
use Rattle.slots.specs.declared.Slot.{Slot}
use Rattle.slots.specs.Calls.{holds_code}
use Rattle.build.specs.declared.Member.{Member}
use Rattle.build.specs.Built.{half}
use Rattle.ledger.specs.Ledger.{same_code, place_for, entry_in}
use Rattle.ledger.specs.Law.{full_count, AtHome, Sound}
use Rattle.ledger.proofs.Elements.{nth_set-same, nth_set_other, count_set}
use Rattle.ledger.proofs.Entries.{same_halves}
use Rattle.ledger.proofs.Placing.{place_fits}

-- the entry that a slot gives for a code, if it holds the code
abbrev pub hold : {C V : Type 0} (front_of back_of : C → ℕ) → Option (Slot C V) → C → Option V
hold front_of back_of None code = None
hold front_of back_of (Some slot) code = cond (holds_code front_of back_of code slot) (Some slot.entry) None

module _ {C V : Type 0} (front_of back_of : C → ℕ) (r : ℕ) (first second : List ℕ) where
  pub record Mirrors (slots : List (Slot C V)) (ledger : List (Member C V)) : Type 0 where
    pub sound : Sound front_of back_of r first second slots
    pub fit : Fit (half front_of) (half back_of) r ledger
    pub distinct : Distinct (half front_of) (half back_of) ledger
    pub same : (code : C) → front_of code < 2 ^ r → back_of code < 2 ^ r → hold front_of back_of (slice_get slots (place_for front_of back_of first second code)) code ≡ entry_in front_of back_of ledger code
    pub number : full_count (take (2 ^ r) slots) ≡ length ledger

-- a slot that holds a code holds no other
pub hold_other : {C V : Type 0} (front_of back_of : C → ℕ) (code other : C) (slot : Slot C V) → (slot.full ≡ true → slot.code ≡ code) → same_code front_of back_of code other ≡ false → hold front_of back_of (Some slot) other ≡ None
hold_other front_of back_of code other slot own ne = grind (arith, nat_tests)

module _ {C V : Type 0} {front_of back_of : C → ℕ} (law : (x y : C) → front_of x ≡ front_of y → back_of x ≡ back_of y → x ≡ y) {r : ℕ} {first second : List ℕ} {slots : List (Slot C V)} {ledger : List (Member C V)} (mirrors : Mirrors front_of back_of r first second slots ledger)
    (code : C) (front_fits : front_of code < 2 ^ r) (back_fits : back_of code < 2 ^ r) (old new : Slot C V) (is : slice_get slots (place_for front_of back_of first second code) ≡ Some old) where
  -- the code's slot is written, with the code or empty, and the ledger changes as much
  module _ (own : new.full ≡ true → new.code ≡ code) where
    home_kept : (place : ℕ) (slot : Slot C V) → place < 2 ^ r → slice_get (set slots (place_for front_of back_of first second code) new) place ≡ Some slot → slot.full ≡ true → AtHome front_of back_of r first second place slot
    home_kept place slot h at full =
        ⊎_elim {C = AtHome front_of back_of r first second place slot}
        (λ here.
        let room : place_for front_of back_of first second code < length slots = omega (arith, mirrors.sound.slots_long, place_fits mirrors.sound (front_of code) (back_of code) front_fits back_fits) in
        let written : Some new ≡ Some slot = sym (nth_set-same slots (place_for front_of back_of first second code) new room) ∙ ap (slice_get (set slots (place_for front_of back_of first second code) new)) (sym here) ∙ at in
        let same : new ≡ slot = cc in
        let code_is : slot.code ≡ code = ap (λ (s : Slot C V). s.code) (sym same) ∙ own (ap (λ (s : Slot C V). s.full) same ∙ full) in
        record {
          front_fits = subst (λ (x : C). front_of x < 2 ^ r) (sym code_is) front_fits;
          back_fits = subst (λ (x : C). back_of x < 2 ^ r) (sym code_is) back_fits;
          place_is = ap (place_for front_of back_of first second) code_is ∙ sym here;
        })
        (λ elsewhere. mirrors.sound.at_home place slot h (sym (nth_set_other slots (place_for front_of back_of first second code) place new elsewhere) ∙ at) full)
        (cases_eq place (place_for front_of back_of first second code))

    sound_kept : Sound front_of back_of r first second (set slots (place_for front_of back_of first second code) new)
    sound_kept =
        record {
          low = mirrors.sound.low;
          high = mirrors.sound.high;
          first_long = mirrors.sound.first_long;
          second_long = mirrors.sound.second_long;
          slots_long = omega (arith, mirrors.sound.slots_long, length-set slots (place_for front_of back_of first second code) new);
          first_below = mirrors.sound.first_below;
          second_below = mirrors.sound.second_below;
          at_home = home_kept;
        }

    module _ (was : (other : C) → same_code front_of back_of code other ≡ false → hold front_of back_of (Some old) other ≡ None)
        (ledger' : List (Member C V))
        (entry : hold front_of back_of (Some new) code ≡ entry_in front_of back_of ledger' code)
        (others : (other : C) → same_code front_of back_of code other ≡ false → entry_in front_of back_of ledger' other ≡ entry_in front_of back_of ledger other) where
      same_kept : (other : C) → front_of other < 2 ^ r → back_of other < 2 ^ r → hold front_of back_of (slice_get (set slots (place_for front_of back_of first second code) new) (place_for front_of back_of first second other)) other ≡ entry_in front_of back_of ledger' other
      same_kept other f b =
          let place = place_for front_of back_of first second in
          let room : place_for front_of back_of first second code < length slots = omega (arith, mirrors.sound.slots_long, place_fits mirrors.sound (front_of code) (back_of code) front_fits back_fits) in
          let here = nth_set-same slots (place code) new room in
          ⊎_elim {C = hold front_of back_of (slice_get (set slots (place_for front_of back_of first second code) new) (place_for front_of back_of first second other)) other ≡ entry_in front_of back_of ledger' other}
          (λ same.
          let halves = same_halves front_of back_of code other same in
          subst (λ (x : C). hold front_of back_of (slice_get (set slots (place_for front_of back_of first second code) new) (place_for front_of back_of first second x)) x ≡ entry_in front_of back_of ledger' x) (law code other halves.0 halves.1)
          (ap (λ (s : Option (Slot C V)). hold front_of back_of s code) here ∙ entry))
          (λ ne.
          ⊎_elim {C = hold front_of back_of (slice_get (set slots (place_for front_of back_of first second code) new) (place_for front_of back_of first second other)) other ≡ entry_in front_of back_of ledger' other}
          (λ e.
          ap (λ (s : Option (Slot C V)). hold front_of back_of s other) (ap (slice_get (set slots (place code) new)) e ∙ here)
          ∙ hold_other front_of back_of code other new own ne
          ∙ sym (was other ne)
          ∙ ap (λ (s : Option (Slot C V)). hold front_of back_of s other) (sym is ∙ ap (slice_get slots) (sym e))
          ∙ mirrors.same other f b
          ∙ sym (others other ne))
          (λ apart.
          ap (λ (s : Option (Slot C V)). hold front_of back_of s other) (nth_set_other slots (place code) (place other) new apart)
          ∙ mirrors.same other f b
          ∙ sym (others other ne))
          (cases_eq (place other) (place code)))
          (cases_Bool (same_code front_of back_of code other))

      pub write_keeps : Fit (half front_of) (half back_of) r ledger' → Distinct (half front_of) (half back_of) ledger' → length ledger' + cond old.full 1 0 ≡ length ledger + cond new.full 1 0
          → Mirrors front_of back_of r first second (set slots (place_for front_of back_of first second code) new) ledger'
      write_keeps fit distinct balance =
          let within = place_fits mirrors.sound (front_of code) (back_of code) front_fits back_fits in
          let counted = count_set (λ (s : Slot C V). s.full) (2 ^ r) slots (place_for front_of back_of first second code) old new within is in
          record { sound = sound_kept; fit = fit; distinct = distinct; same = same_kept; number = omega (arith, mirrors.number) }
