-- What the ledger holds after it is fed. Assumes nothing.
use Rattle.std.proofs.Common.{◌≡◌, ℕ, suc, ◌+◌, true, false, not, List, [], ◌∷◌, map, length, Some, None, sym, refl, ap, ◌∙◌, arith}
use Rattle.std.proofs.lemmas.Bool.{cond_both, cond-true, not-true, not-false}
use Rattle.std.proofs.lemmas.Bool.Decides.{nat_tests}
use Rattle.rule.specs.Places.{Each, Apart, Distinct}
use Rattle.rule.proofs.Each.{each_with}
use Rattle.build.specs.declared.Member.{Member}
use Rattle.build.specs.Built.{half}
use Rattle.ledger.specs.Ledger.{same_code, entry_in, with_entry, without}

module _ {C : Type 0} (front_of back_of : C → ℕ) where
  pub same_itself : (x : C) → same_code front_of back_of x x ≡ true
  same_itself x = grind (arith, nat_tests)

  pub same_halves : (x y : C) → same_code front_of back_of x y ≡ true → (front_of x ≡ front_of y) × (back_of x ≡ back_of y)
  same_halves x y e = grind (arith, nat_tests)

  pub halves_same : (x y : C) → front_of x ≡ front_of y → back_of x ≡ back_of y → same_code front_of back_of x y ≡ true
  halves_same x y f b = grind (arith, nat_tests)

  pub same_other : (x y z : C) → same_code front_of back_of x y ≡ true → same_code front_of back_of y z ≡ false → same_code front_of back_of x z ≡ false
  same_other x y z e n = grind (arith, nat_tests)

  pub same_join : (x y z : C) → same_code front_of back_of x y ≡ true → same_code front_of back_of y z ≡ true → same_code front_of back_of x z ≡ true
  same_join x y z e n = grind (arith, nat_tests)

  pub same_flip : (x y : C) → same_code front_of back_of x y ≡ same_code front_of back_of y x
  same_flip x y = grind (arith, nat_tests)

module _ {C V : Type 0} (front_of back_of : C → ℕ) where
  -- ---- the entry of a code is that of the first member with the code
  module _ (m : Member C V) (ledger : List (Member C V)) (code : C) where
    pub entry_here : same_code front_of back_of m.code code ≡ true → entry_in front_of back_of (m ∷ ledger) code ≡ Some m.entry
    unfolding entry_in
    entry_here e = grind (arith, nat_tests)

    pub entry_behind : same_code front_of back_of m.code code ≡ false → entry_in front_of back_of (m ∷ ledger) code ≡ entry_in front_of back_of ledger code
    unfolding entry_in
    entry_behind e = grind (arith, nat_tests)

  -- ---- a code's new entry
  pub renewed_other : (code : C) (entry : V) (ledger : List (Member C V)) (other : C) → same_code front_of back_of code other ≡ false
      → entry_in front_of back_of (map (with_entry front_of back_of code entry) ledger) other ≡ entry_in front_of back_of ledger other
  unfolding entry_in
  renewed_other code entry [] other ne = refl
  renewed_other code entry (m ∷ ledger) other ne = grind (arith, nat_tests, renewed_other code entry ledger other ne)

  pub renewed-same : (code : C) (entry old : V) (ledger : List (Member C V)) → entry_in front_of back_of ledger code ≡ Some old
      → entry_in front_of back_of (map (with_entry front_of back_of code entry) ledger) code ≡ Some entry
  unfolding entry_in
  renewed-same code entry old [] is = cc
  renewed-same code entry old (m ∷ ledger) is = grind (arith, nat_tests, renewed-same code entry old ledger)

  -- ---- a code taken out
  pub without_other : (code : C) (ledger : List (Member C V)) (other : C) → same_code front_of back_of code other ≡ false
      → entry_in front_of back_of (without front_of back_of code ledger) other ≡ entry_in front_of back_of ledger other
  unfolding entry_in without
  without_other code [] other ne = refl
  without_other code (m ∷ ledger) other ne = grind (arith, nat_tests, without_other code ledger other ne)

  pub without-same : (code : C) (ledger : List (Member C V)) → entry_in front_of back_of (without front_of back_of code ledger) code ≡ None
  unfolding entry_in without
  without-same code [] = refl
  without-same code (m ∷ ledger) = grind (arith, nat_tests, without-same code ledger)

  -- ---- what holds of each member goes on to hold
  pub each-renewed : (P : Member C V → Type 0) (code : C) (entry : V) (ledger : List (Member C V)) → ((m : Member C V) → P m → P (record { code = m.code; entry = entry })) → Each P ledger
      → Each P (map (with_entry front_of back_of code entry) ledger)
  unfolding Each
  each-renewed P code entry [] keep h = tt
  each-renewed P code entry (m ∷ ledger) keep h = (
    cond_both (same_code front_of back_of m.code code) (record { code = m.code; entry = entry }) m P (λ _. keep m h.0) (λ _. h.0),
    each-renewed P code entry ledger keep h.1,
  )

  pub each-without : (P : Member C V → Type 0) (code : C) (ledger : List (Member C V)) → Each P ledger → Each P (without front_of back_of code ledger)
  unfolding Each without
  each-without P code [] h = tt
  each-without P code (m ∷ ledger) h =
      cond_both (not (same_code front_of back_of m.code code)) (m ∷ without front_of back_of code ledger) (without front_of back_of code ledger) (Each P)
      (λ _. (h.0, each-without P code ledger h.1))
      (λ _. each-without P code ledger h.1)

  -- ---- no code stands twice
  abbrev Same : Member C V → Member C V → Type 0
  Same x y = (half front_of x ≡ half front_of y) × (half back_of x ≡ half back_of y)

  pub distinct-renewed : (code : C) (entry : V) (ledger : List (Member C V)) → Distinct (half front_of) (half back_of) ledger → Distinct (half front_of) (half back_of) (map (with_entry front_of back_of code entry) ledger)
  unfolding Distinct Apart
  distinct-renewed code entry [] h = tt
  distinct-renewed code entry (m ∷ ledger) h = (
    cond_both (same_code front_of back_of m.code code) (record { code = m.code; entry = entry }) m
        (λ (x : Member C V). Each (λ y. Same x y → ⊥) (map (with_entry front_of back_of code entry) ledger))
        (λ _. each-renewed (λ y. Same m y → ⊥) code entry ledger (λ y k. k) h.0)
        (λ _. each-renewed (λ y. Same m y → ⊥) code entry ledger (λ y k. k) h.0),
    distinct-renewed code entry ledger h.1,
  )

  pub distinct_without : (code : C) (ledger : List (Member C V)) → Distinct (half front_of) (half back_of) ledger → Distinct (half front_of) (half back_of) (without front_of back_of code ledger)
  unfolding Distinct Apart without
  distinct_without code [] h = tt
  distinct_without code (m ∷ ledger) h =
      cond_both (not (same_code front_of back_of m.code code)) (m ∷ without front_of back_of code ledger) (without front_of back_of code ledger) (Apart Same)
      (λ _. (each-without (λ y. Same m y → ⊥) code ledger h.0, distinct_without code ledger h.1))
      (λ _. distinct_without code ledger h.1)

  -- a code that is not in the ledger differs from each that is
  pub none-same : (ledger : List (Member C V)) (code : C) → entry_in front_of back_of ledger code ≡ None → Each (λ m. same_code front_of back_of m.code code ≡ false) ledger
  unfolding entry_in Each
  none-same [] code none = tt
  none-same (m ∷ ledger) code none =
      let apart : same_code front_of back_of m.code code ≡ false = grind (arith, nat_tests) in
      (apart, none-same ledger code (sym (entry_behind m ledger code apart) ∙ none))

  -- ---- how many codes are left
  without-none : (code : C) (ledger : List (Member C V)) → Each (λ m. same_code front_of back_of m.code code ≡ false) ledger → without front_of back_of code ledger ≡ ledger
  unfolding Each without
  without-none code [] h = refl
  without-none code (m ∷ ledger) h = cond-true _ _ _ (ap not h.0) ∙ ap (λ l. m ∷ l) (without-none code ledger h.1)

  pub without-length : (code : C) (entry : V) (ledger : List (Member C V)) → Distinct (half front_of) (half back_of) ledger → entry_in front_of back_of ledger code ≡ Some entry
      → length (without front_of back_of code ledger) + 1 ≡ length ledger
  unfolding Distinct Apart entry_in without
  without-length code entry [] distinct is = cc
  without-length code entry (m ∷ ledger) distinct is =
      cond_both (not (same_code front_of back_of m.code code)) (m ∷ without front_of back_of code ledger) (without front_of back_of code ledger)
      (λ (l : List (Member C V)). length l + 1 ≡ suc (length ledger))
      (λ ne. let rest = without-length code entry ledger distinct.1 (sym (entry_behind m ledger code (not-true _ ne)) ∙ is) in omega arith)
      (λ same.
      let halves = same_halves front_of back_of m.code code (not-false _ same) in
      let rest = without-none code ledger (each_with (λ y ne. other_false y halves.0 halves.1 ne) ledger distinct.0) in
      ap (λ (l : List (Member C V)). length l + 1) rest ∙ omega arith)
    where
      other_false : (y : Member C V) → half front_of m ≡ front_of code → half back_of m ≡ back_of code → (Same m y → ⊥) → same_code front_of back_of y.code code ≡ false
      other_false y f b ne = grind (arith, nat_tests, ne)
