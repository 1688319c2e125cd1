-- The rule reads the members of a class by sums alone: members whose classes have the same sums get the same displacements. Assumes nothing.
use Rattle.std.proofs.Common.{◌≡◌, ℕ, zero, suc, ◌+◌, ◌^◌, cond, eqb, ltb, leb, List, [], ◌∷◌, ◌++◌, map, length, sym, refl, ap, ◌∙◌, ap₂}
use lib.Bits.{bit_xor}
use Rattle.rule.specs.Choose.{agree, alike, count, pick, choose}
use Rattle.rule.specs.Places.{Distinct}
use Rattle.rule.specs.Round.{falling, keep, behind, of_class, order, taken, displacement}
use Rattle.rule.proofs.Sums.{total, total_append, total_map}
use Rattle.rule.proofs.Pairs.{length-same, shared-none, none-shared, shared_same}
use Rattle.rule.proofs.Classes.{class_apart, distinct_classes}

-- two lists of numbers over which every sum is equal
abbrev pub SameSums : List ℕ → List ℕ → Type 0
SameSums ms ns = (f : ℕ → ℕ) → total f ms ≡ total f ns

alike_total : (w m : ℕ) (ys : List ℕ) → alike w m ys ≡ total (λ y. cond (agree w m y) 1 0) ys
unfolding alike total
alike_total w m [] = refl
alike_total w m (y ∷ ys) = ap (λ (n : ℕ). cond (agree w m y) 1 0 + n) (alike_total w m ys)

count_total : (w d : ℕ) (ms ys : List ℕ) → count w d ms ys ≡ total (λ m. alike w (bit_xor m d) ys) ms
unfolding count total
count_total w d [] ys = refl
count_total w d (m ∷ ms) ys = ap (λ (n : ℕ). alike w (bit_xor m d) ys + n) (count_total w d ms ys)

module _ (ms ns ys zs : List ℕ) (same : SameSums ms ns) (same' : SameSums ys zs) where
  pub count_same : (w d : ℕ) → count w d ms ys ≡ count w d ns zs
  count_same w d =
      count_total w d ms ys ∙ same (λ m. alike w (bit_xor m d) ys)
      ∙ ap (λ (f : ℕ → ℕ). total f ns) (λ i m. here (bit_xor m d) i) ∙ sym (count_total w d ns zs)
    where
      here : (a : ℕ) → alike w a ys ≡ alike w a zs
      here a = alike_total w a ys ∙ same' (λ y. cond (agree w a y) 1 0) ∙ sym (alike_total w a zs)

  pick_same : (k d : ℕ) → pick k d ms ys ≡ pick k d ns zs
  unfolding pick
  pick_same k d = ap₂ (λ (a b : ℕ). cond (ltb a b) (d + 2 ^ k) d) (count_same (k + 1) (d + 2 ^ k)) (count_same (k + 1) d)

  -- so the same displacement is chosen
  pub choose-same : (k : ℕ) → choose k ms ys ≡ choose k ns zs
  unfolding choose
  choose-same zero = refl
  choose-same (suc k) = ap (λ (d : ℕ). pick k d ms ys) (choose-same k) ∙ pick_same k (choose k ns zs)

module _ {X Y : Type 0} (class moved : X → ℕ) (class' moved' : Y → ℕ) (xs : List X) (ys : List Y)
    (same : (c : ℕ) → SameSums (of_class class moved c xs) (of_class class' moved' c ys)) where
  class_length : (c : ℕ) → length (of_class class moved c xs) ≡ length (of_class class' moved' c ys)
  class_length c = length-same (λ m. m) (λ m. m) (of_class class moved c xs) (of_class class' moved' c ys) (same c)

  pub order_same : (n : ℕ) → order class moved n xs ≡ order class' moved' n ys
  unfolding order
  order_same n =
      ap (λ (size : ℕ → ℕ). keep (λ c. eqb (size c) 1) (falling n) ++ keep (λ c. leb 2 (size c)) (falling n)) (λ i c. class_length c i)

  -- the results taken have the same sums
  pub taken-same : (r : ℕ) (cs : List ℕ) → SameSums (taken class moved r xs cs) (taken class' moved' r ys cs)
  unfolding taken
  taken-same r [] f = refl
  taken-same r (c ∷ cs) f =
      let ms = of_class class moved c xs in
      let ns = of_class class' moved' c ys in
      let before = taken class moved r xs cs in
      let before' = taken class' moved' r ys cs in
      let d = choose r ms before in
      let d' = choose r ns before' in
      total_append f (map (λ m. bit_xor m d) ms) before
      ∙ ap₂ ◌+◌
      (total_map (λ m. bit_xor m d) f ms ∙ same c (λ m. f (bit_xor m d))
      ∙ ap (λ (e : ℕ). total (λ m. f (bit_xor m e)) ns) (choose-same ms ns before before' (same c) (taken-same r cs) r) ∙ sym (total_map (λ m. bit_xor m d') f ns))
      (taken-same r cs f)
      ∙ sym (total_append f (map (λ m. bit_xor m d') ns) before')

  -- every class has the same displacement
  pub displacement-same : (r v : ℕ) → displacement class moved r xs v ≡ displacement class' moved' r ys v
  unfolding displacement
  displacement-same r v =
      ap (λ (cs : List ℕ). choose r (of_class class moved v xs) (taken class moved r xs (behind v cs))) (order_same (2 ^ r))
      ∙ choose-same (of_class class moved v xs) (of_class class' moved' v ys) (taken class moved r xs before) (taken class' moved' r ys before)
      (same v) (taken-same r before) r
    where
      before : List ℕ
      before = behind v (order class' moved' (2 ^ r) ys)

  -- if the members of xs are distinct, so are those of ys
  pub distinct-same : Distinct class moved xs → Distinct class' moved' ys
  distinct-same h =
      distinct_classes class' moved' ys (λ c. none-shared (λ m. m) (of_class class' moved' c ys)
      (sym (shared_same (λ m. m) (λ m. m) (of_class class moved c xs) (of_class class' moved' c ys) (same c))
      ∙ shared-none (λ m. m) (of_class class moved c xs) (class_apart class moved c xs h)))
