-- The slots as they are emptied and filled. Assumes nothing.
use Rattle.std.proofs.Common.{◌≡◌, ℕ, ◌+◌, ◌<◌, ◌≤◌, List, [], ◌∷◌, ◌++◌, map, length, get_or, take, drop, set, sym, refl, ap, ap₂, ◌∙◌}
use Rattle.std.proofs.lemmas.List.Edits.{map_over_more}
use Rattle.std.proofs.lemmas.List.{append-nil, drop_more, drop_all, take_all}
use Rattle.slots.specs.declared.Slot.{Slot}
use Rattle.build.specs.declared.Member.{Member}
use Rattle.build.specs.Filled.{vacant, slot_of, emptied, filled}
use Rattle.build.specs.Steps.{filled_from}

module _ {C V : Type 0} where
  -- one slot more is marked empty
  pub emptied_more : (old : List (Slot C V)) (i : ℕ) (slots : List (Slot C V)) (slot : Slot C V) → i < length old → slots ≡ emptied i old → slot ≡ get_or slots i slot
      → set slots i (vacant (get_or slots i slot)) ≡ emptied (i + 1) old
  emptied_more old i slots slot h e is = map_over_more vacant old slots i (get_or slots i slot) h e (ap (λ s. get_or slots i s) is)

  -- the first n are marked empty, once a part of them is
  pub emptied_part : (n : ℕ) (old : List (Slot C V)) (i : ℕ) (slots : List (Slot C V)) → length (take n old) ≤ i → slots ≡ emptied i (take n old) → slots ++ drop n old ≡ emptied n old
  emptied_part n old i slots h e =
      ap (λ xs. xs ++ drop n old)
      (e ∙ ap (λ xs. map vacant xs ++ drop i (take n old)) (take_all i (take n old) h)
      ∙ ap (λ (xs : List (Slot C V)). map vacant (take n old) ++ xs) (drop_all i (take n old) h) ∙ append-nil (map vacant (take n old)))

  filled_none : (places : List ℕ) (slots : List (Slot C V)) → filled places [] slots ≡ slots
  unfolding filled
  filled_none [] slots = refl
  filled_none (place ∷ places) slots = refl

  module _ (places : List ℕ) (ms : List (Member C V)) where
    -- one member more
    pub filled_more : (i : ℕ) (place : ℕ) (member : Member C V) (slots : List (Slot C V)) → i < length places → i < length ms → place ≡ get_or places i place → member ≡ get_or ms i member
        → filled_from places ms (i + 1) (set slots place (slot_of member)) ≡ filled_from places ms i slots
    unfolding filled
    filled_more i place member slots h l p e =
        ap₂ (λ (q : ℕ) (m : Member C V). filled (drop (i + 1) places) (drop (i + 1) ms) (set slots q (slot_of m))) p e
        ∙ sym (ap₂ (λ (ps : List ℕ) (xs : List (Member C V)). filled ps xs slots) (drop_more places i place h) (drop_more ms i member l))

    -- all of them
    pub filled_all : (i : ℕ) (slots : List (Slot C V)) → length ms ≤ i → filled_from places ms i slots ≡ slots
    filled_all i slots h = ap (λ xs. filled (drop i places) xs slots) (drop_all i ms h) ∙ filled_none (drop i places) slots
