-- What the slots hold after a build, index by index. Assumes nothing.
use Rattle.std.proofs.Common.{◌≡◌, ℕ, zero, suc, ◌-◌, ◌^◌, ◌<◌, ◌≤◌, ◌⊎◌, List, [], ◌∷◌, map, length, get_or, take, drop, set, sym, refl, ap, ◌∙◌, subst, inl, inr, ⊎_elim, not-suc-le-zero, arith}
use Rattle.std.specs.List.Sorted.{IsPermutation}
use Rattle.std.specs.List.{ContainsAt as Has}
use Rattle.std.proofs.lemmas.List.{length-set, length-append, length-drop, get_or-set_same, get_or-set_other, get_or_append_left, get_or-append_right, get_or-map, get_or-take, get_or-drop, length-map, length-take-le, same_lists}
use Rattle.std.proofs.ByRecursion.{has_shuffled}
use Rattle.std.proofs.lemmas.Bool.{cases_eq}
use Rattle.rule.specs.Places.{Each, Apart, Fit, place}
use Rattle.rule.proofs.Each.{each_with}
use Rattle.rule.proofs.Order.{each_shuffled}
use Rattle.rule.proofs.Rounds.{places_fit}
use Rattle.slots.specs.declared.Slot.{Slot}
use Rattle.build.specs.declared.Member.{Member}
use Rattle.build.specs.Built.{half, slot_list}
use Rattle.build.specs.Filled.{vacant, slot_of, emptied, filled, refilled}

module _ {C V : Type 0} where
  -- ---- slots that were marked empty
  -- one of the first n is marked empty, and keeps its code and entry
  pub emptied_here : (n : ℕ) (slots : List (Slot C V)) (p : ℕ) (d : Slot C V) → p < n → n ≤ length slots → get_or (emptied n slots) p d ≡ vacant (get_or slots p d)
  emptied_here n slots p d h long =
      let front = length-map (take n slots) vacant in
      let taken = length-take-le n slots long in
      get_or_append_left (map vacant (take n slots)) (drop n slots) d p (omega arith)
      ∙ get_or-map vacant (take n slots) p d d (omega arith)
      ∙ ap vacant (get_or-take n slots p d h)

  -- the others are as they were
  pub emptied_other : (n : ℕ) (slots : List (Slot C V)) (p : ℕ) (d : Slot C V) → n ≤ p → n ≤ length slots → get_or (emptied n slots) p d ≡ get_or slots p d
  emptied_other n slots p d h long =
      get_or-append_right (map vacant (take n slots)) (drop n slots) n p d (length-map (take n slots) vacant ∙ length-take-le n slots long) h
      ∙ get_or-drop n slots (p - n) d
      ∙ ap (λ (i : ℕ). get_or slots i d) (omega arith)

  pub length-emptied : (n : ℕ) (slots : List (Slot C V)) → n ≤ length slots → length (emptied n slots) ≡ length slots
  length-emptied n slots long =
      let front = length-map (take n slots) vacant in
      let taken = length-take-le n slots long in
      length-append (map vacant (take n slots)) (drop n slots) ∙ omega (arith, length-drop n slots)

  pub length-filled : (places : List ℕ) (ms : List (Member C V)) (slots : List (Slot C V)) → length (filled places ms slots) ≡ length slots
  unfolding filled
  length-filled [] ms slots = refl
  length-filled (place ∷ places) [] slots = refl
  length-filled (place ∷ places) (m ∷ ms) slots = length-filled places ms (set slots place (slot_of m)) ∙ length-set slots place (slot_of m)

  -- ---- members written to slots, where `at` gives each member its place
  module _ (at : Member C V → ℕ) where
    -- an index that is no member's place
    pub written_other : (ms : List (Member C V)) (slots : List (Slot C V)) (p : ℕ) (d : Slot C V) → Each (λ m. at m ≡ p → ⊥) ms → get_or (filled (map at ms) ms slots) p d ≡ get_or slots p d
    unfolding filled Each
    written_other [] slots p d h = refl
    written_other (m ∷ ms) slots p d h =
        written_other ms (set slots (at m) (slot_of m)) p d h.1 ∙ get_or-set_other slots (at m) p (slot_of m) d (λ e. h.0 (sym e))

    -- the place of the member m, which stands at position k
    pub written_here : (ms : List (Member C V)) (slots : List (Slot C V)) (k : ℕ) (m : Member C V) (d : Slot C V) → Apart (λ x y. at x ≡ at y) ms → k < length ms → m ≡ get_or ms k m
        → at m < length slots → get_or (filled (map at ms) ms slots) (at m) d ≡ slot_of m
    unfolding filled Apart
    written_here [] slots k m d apart h is room = absurd (not-suc-le-zero h)
    written_here (x ∷ ms) slots zero m d apart h is room =
        written_other ms (set slots (at x) (slot_of x)) (at m) d (each_with (λ y ne e. ne (ap at (sym is) ∙ sym e)) ms apart.0)
        ∙ subst (λ (y : Member C V). get_or (set slots (at y) (slot_of y)) (at m) d ≡ slot_of m) is (get_or-set_same slots (at m) (slot_of m) d room)
    written_here (x ∷ ms) slots (suc k) m d apart h is room =
        written_here ms (set slots (at x) (slot_of x)) k m d apart.1 (omega arith) is (let long = length-set slots (at x) (slot_of x) in omega arith)

    -- an index is the place of some member or of none
    pub some_or_none : (p : ℕ) (ms : List (Member C V)) → ((m : Member C V) × Has ms m × (at m ≡ p)) ⊎ Each (λ m. at m ≡ p → ⊥) ms
    unfolding Each
    some_or_none p [] = inr tt
    some_or_none p (m ∷ ms) =
        ⊎_elim {C = ((x : Member C V) × Has (m ∷ ms) x × (at x ≡ p)) ⊎ ((at m ≡ p → ⊥) × Each (λ m. at m ≡ p → ⊥) ms)}
        (λ e. inl (m, (0, omega arith, λ d. refl), e))
        (λ ne.
        ⊎_elim {C = ((x : Member C V) × Has (m ∷ ms) x × (at x ≡ p)) ⊎ ((at m ≡ p → ⊥) × Each (λ m. at m ≡ p → ⊥) ms)}
        (λ found. inl (found.0, (suc found.1.0, omega (arith, found.1.1), found.1.2), found.2))
        (λ none. inr (ne, none))
        (some_or_none p ms))
        (cases_eq (at m) p)

    -- members in another order are written to the same slots
    pub written_shuffled : (ms others : List (Member C V)) (slots : List (Slot C V)) → IsPermutation ms others → Apart (λ x y. at x ≡ at y) ms → Apart (λ x y. at x ≡ at y) others
        → filled (map at ms) ms slots ≡ filled (map at others) others slots
    written_shuffled ms others slots shuffled apart apart' =
        let long = length-filled (map at ms) ms slots in
        let long' = length-filled (map at others) others slots in
        same_lists (filled (map at ms) ms slots) (filled (map at others) others slots) (omega arith)
        (λ p d h.
        ⊎_elim {C = get_or (filled (map at ms) ms slots) p d ≡ get_or (filled (map at others) others slots) p d}
        (λ found.
        let m = found.0 in
        let has = found.1 in
        let has' = has_shuffled ms others m shuffled has in
        let room : at m < length slots = omega (arith, found.2) in
        subst (λ (q : ℕ). get_or (filled (map at ms) ms slots) q d ≡ get_or (filled (map at others) others slots) q d) found.2
        (written_here ms slots has.0 m d apart has.1 (sym (has.2 m)) room ∙ sym (written_here others slots has'.0 m d apart' has'.1 (sym (has'.2 m)) room)))
        (λ none. written_other ms slots p d none ∙ sym (written_other others slots p d (each_shuffled ms others shuffled (λ m. at m ≡ p → ⊥) none)))
        (some_or_none p ms))

-- something that holds of each member holds of the one at position k
each_at : {X : Type 0} (P : X → Type 0) (xs : List X) (k : ℕ) (x : X) → k < length xs → x ≡ get_or xs k x → Each P xs → P x
unfolding Each
each_at P [] k x h is all = absurd (not-suc-le-zero h)
each_at P (y ∷ xs) zero x h is all = subst P (sym is) all.0
each_at P (y ∷ xs) (suc k) x h is all = each_at P xs k x (omega arith) is all.1

-- ---- the slots of an index
module _ {C V : Type 0} (front back : C → ℕ) (r : ℕ) (ms : List (Member C V)) (old : List (Slot C V)) (long : 2 ^ r ≤ length old) where
  pub length-slots : length (slot_list front back r ms old) ≡ length old
  unfolding slot_list refilled
  length-slots = length-filled (map (place (half front) (half back) r ms) ms) ms (emptied (2 ^ r) old) ∙ length-emptied (2 ^ r) old long

  -- a slot of the index that is no member's place is marked empty, and keeps its code and entry
  pub slots_other : (p : ℕ) (d : Slot C V) → p < 2 ^ r → Each (λ m. place (half front) (half back) r ms m ≡ p → ⊥) ms → get_or (slot_list front back r ms old) p d ≡ vacant (get_or old p d)
  unfolding slot_list refilled
  slots_other p d h none = written_other (place (half front) (half back) r ms) ms (emptied (2 ^ r) old) p d none ∙ emptied_here (2 ^ r) old p d h long

  module _ (fit : Fit (half front) (half back) r ms) where
    -- the slots behind the index are as they were
    pub slots_beyond : (p : ℕ) (d : Slot C V) → 2 ^ r ≤ p → get_or (slot_list front back r ms old) p d ≡ get_or old p d
    unfolding slot_list refilled
    slots_beyond p d h =
        written_other (place (half front) (half back) r ms) ms (emptied (2 ^ r) old) p d
        (each_with (λ m below e. omega arith) ms (places_fit (half front) (half back) r ms fit))
        ∙ emptied_other (2 ^ r) old p d h long

    -- the place of the member m, which stands at position k, holds it
    pub slots_here : (k : ℕ) (m : Member C V) (d : Slot C V) → Apart (λ x y. place (half front) (half back) r ms x ≡ place (half front) (half back) r ms y) ms → k < length ms → m ≡ get_or ms k m
        → get_or (slot_list front back r ms old) (place (half front) (half back) r ms m) d ≡ slot_of m
    unfolding slot_list refilled
    slots_here k m d apart h is =
        let below = each_at (λ m. place (half front) (half back) r ms m < 2 ^ r) ms k m h is (places_fit (half front) (half back) r ms fit) in
        let room = length-emptied (2 ^ r) old long in
        written_here (place (half front) (half back) r ms) ms (emptied (2 ^ r) old) k m d apart h is (omega arith)
