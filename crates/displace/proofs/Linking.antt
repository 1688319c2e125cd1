-- What the chains of rows lead through. Assumes nothing.
use Rattle.std.proofs.Common.{◌≡◌, ℕ, zero, suc, ◌+◌, ◌-◌, ◌<◌, ◌≤◌, true, false, cond, eqb, List, [], ◌∷◌, ◌++◌, length, get_or, take, drop, set, replicate, sym, refl, ap, ◌∙◌, subst, ⊎_elim, add-one, arith}
use Rattle.std.specs.List.{zip}
use Rattle.std.proofs.lemmas.List.{append_assoc, append-nil, get_or-set_same, get_or-set_other, take_more, take_all, drop-set, drop_all, length-set, get_or-replicate}
use Rattle.std.proofs.lemmas.Slice.Zip.{get_or-zip, length-zip}
use Rattle.std.proofs.lemmas.Bool.{eq-eqb, ne_eqb, cases_eq, cond_both, cond-true}
use Rattle.rule.specs.Round.{of_class}
use Rattle.displace.specs.Columns.{class_of, moved_of, group_of}
use Rattle.displace.specs.Rows.{last_of, Headed, Linked}

-- ---- the last row of a class
last_here : (class : List ℕ) (v i : ℕ) → get_or class i 0 ≡ v → last_of class v (i + 1) ≡ i + 1
unfolding last_of
last_here class v i e = rw (add-one i, eq-eqb (get_or class i 0) v e)

last_other : (class : List ℕ) (v i : ℕ) → (get_or class i 0 ≡ v → ⊥) → last_of class v (i + 1) ≡ last_of class v i
unfolding last_of
last_other class v i ne = rw (add-one i, ne_eqb (get_or class i 0) v ne)

pub last_le : (class : List ℕ) (v i : ℕ) → last_of class v i ≤ i
unfolding last_of
last_le class v zero = omega arith
last_le class v (suc i) =
    let h = last_le class v i in
    cond_both (eqb (get_or class i 0) v) (suc i) (last_of class v i) (λ n. n ≤ suc i) (λ _. omega arith) (λ _. omega arith)

-- what is the last row of some part of the column is the last row of its own part
last-last : (class : List ℕ) (v i : ℕ) → last_of class v (last_of class v i) ≡ last_of class v i
unfolding last_of
last-last class v zero = refl
last-last class v (suc i) =
    cond_both (eqb (get_or class i 0) v) (suc i) (last_of class v i) (λ n. last_of class v n ≡ n)
    (λ e. cond-true _ (suc i) (last_of class v i) e)
    (λ _. last-last class v i)

last_class : (class : List ℕ) (v i : ℕ) → i + 1 ≡ last_of class v (i + 1) → get_or class i 0 ≡ v
last_class class v i e =
    ⊎_elim {C = get_or class i 0 ≡ v} (λ same. same) (λ ne. absurd (let a = last_other class v i ne in let b = last_le class v i in omega arith)) (cases_eq (get_or class i 0) v)

-- ---- one more row
pub headed_none : (class heads : List ℕ) → heads ≡ replicate (length heads) 0 → Headed class 0 heads
unfolding last_of
headed_none class heads e v h = ap (λ xs. get_or xs v 0) e ∙ get_or-replicate (length heads) v 0 0 h

pub headed_more : (class heads : List ℕ) (i : ℕ) → get_or class i 0 < length heads → Headed class i heads → Headed class (i + 1) (set heads (get_or class i 0) (i + 1))
headed_more class heads i h so v l =
    let l' : v < length heads = rw length-set at l in
    ⊎_elim {C = get_or (set heads (get_or class i 0) (i + 1)) v 0 ≡ last_of class v (i + 1)}
    (λ e. ap (λ n. get_or (set heads (get_or class i 0) (i + 1)) n 0) (sym e) ∙ get_or-set_same heads (get_or class i 0) (i + 1) 0 h ∙ sym (last_here class v i e))
    (λ ne. get_or-set_other heads (get_or class i 0) v (i + 1) 0 (λ e. ne (sym e)) ∙ so v l' ∙ sym (last_other class v i ne))
    (cases_eq (get_or class i 0) v)

-- every row leads to an earlier one
pub linked_falls : (class links : List ℕ) → length links ≡ length class → Linked class (length class) links → (i : ℕ) → i < length links → get_or links i 0 ≤ i
linked_falls class links e so i h = let a = so i (omega arith) in let b = last_le class (get_or class i 0) i in omega arith

pub headed_within : (class heads : List ℕ) (n v : ℕ) → v < length heads → Headed class n heads → get_or heads v 0 ≤ n
headed_within class heads n v h so = let a = so v h in let b = last_le class v n in omega arith

-- ---- the rows of a class
append_class : (v : ℕ) (xs ys : List (ℕ × ℕ)) → of_class class_of moved_of v (xs ++ ys) ≡ of_class class_of moved_of v xs ++ of_class class_of moved_of v ys
unfolding of_class
append_class v [] ys = refl
append_class v (x ∷ xs) ys =
    elim (eqb (class_of x) v)
    as (λ b. cond b (moved_of x ∷ of_class class_of moved_of v (xs ++ ys)) (of_class class_of moved_of v (xs ++ ys))
    ≡ cond b (moved_of x ∷ of_class class_of moved_of v xs) (of_class class_of moved_of v xs) ++ of_class class_of moved_of v ys)
    [ true ↦ ap (λ zs. moved_of x ∷ zs) (append_class v xs ys) | false ↦ append_class v xs ys ]

-- the moved numbers of class v in the first i rows
unfoldable pub rows : List ℕ → List ℕ → ℕ → ℕ → List ℕ
rows class moved v i = of_class class_of moved_of v (take i (zip class moved))

module _ (class moved : List ℕ) (long : length class ≡ length moved) where
  rows_more : (v i : ℕ) → i < length class → rows class moved v (i + 1) ≡ rows class moved v i ++ cond (eqb (get_or class i 0) v) (get_or moved i 0 ∷ []) []
  unfolding rows of_class
  rows_more v i h =
      let all = length-zip class moved in
      rw (take_more (zip class moved) i (0, 0) (omega arith), get_or-zip class moved i (0, 0) h (omega arith), append_class v (take i (zip class moved)) ((get_or class i 0, get_or moved i 0) ∷ []))

  rows_last : (v i : ℕ) → i ≤ length class → rows class moved v i ≡ rows class moved v (last_of class v i)
  unfolding last_of
  rows_last v zero h = refl
  rows_last v (suc i) h =
      cond_both (eqb (get_or class i 0) v) (suc i) (last_of class v i) (λ n. rows class moved v (suc i) ≡ rows class moved v n)
      (λ _. refl)
      (λ e. rw (← add-one i, rows_more v i (omega arith), e, append-nil) (rows_last v i (omega arith)))

-- on the way along the chain of class v: what stands before the row, and then the tail, are the class
pub record Walked (class moved : List ℕ) (v row : ℕ) (tail : List ℕ) : Type 0 where
  pub of_own : row ≡ last_of class v row
  pub within : row ≤ length class
  pub whole : rows class moved v row ++ tail ≡ group_of v class moved

module _ (class moved : List ℕ) (v : ℕ) (long : length class ≡ length moved) where
  pub walked_none : (row n : ℕ) (xs : List ℕ) → row ≡ last_of class v (length class) → length xs ≤ n → Walked class moved v row (drop n xs)
  unfolding rows group_of
  walked_none row n xs e past =
      let all = length-zip class moved in
      let le = last_le class v (length class) in
      let whole : length (zip class moved) ≤ length class = omega arith in
      record {
        of_own = rw e (sym (last-last class v (length class)));
        within = omega arith;
        whole = rw (drop_all n xs past, append-nil, e, ← rows_last class moved long v (length class) (omega arith), take_all);
      }

  pub walked_more : (links : List ℕ) (row start : ℕ) (xs : List ℕ) → Linked class (length class) links → 0 < row → 0 < start → start ≤ length xs
      → Walked class moved v row (drop start xs) → Walked class moved v (get_or links (row - 1) 0) (drop (start - 1) (set xs (start - 1) (get_or moved (row - 1) 0)))
  walked_more links row start xs linked some room fits so =
      let i = row - 1 in
      let next : row ≡ i + 1 = omega arith in
      let lt : i < length class = omega (arith, so.within) in
      let own : get_or class i 0 ≡ v = last_class class v i (subst (λ (n : ℕ). n ≡ last_of class v n) next so.of_own) in
      let link : get_or links i 0 ≡ last_of class v i = linked i lt ∙ ap (λ c. last_of class c i) own in
      let le = last_le class v i in
      let m = get_or moved i 0 in
      let back : start - 1 + 1 ≡ start = omega arith in
      let tail : drop (start - 1) (set xs (start - 1) m) ≡ m ∷ drop start xs =
      drop-set xs (start - 1) m (omega arith) ∙ ap (λ n. m ∷ drop n xs) back in
      let more : rows class moved v row ≡ rows class moved v i ++ m ∷ [] =
      ap (rows class moved v) next ∙ rows_more class moved long v i lt ∙ ap (λ zs. rows class moved v i ++ zs) (cond-true _ (m ∷ []) [] (eq-eqb _ v own)) in
      let less : rows class moved v (get_or links i 0) ≡ rows class moved v i = ap (rows class moved v) link ∙ sym (rows_last class moved long v i (omega arith)) in
      record {
        of_own = rw link (sym (last-last class v i));
        within = omega arith;
        whole = rw (less, tail) (sym (append_assoc (rows class moved v i) (m ∷ []) (drop start xs)) ∙ rw (← more) so.whole);
      }

  pub walked_all : (row : ℕ) (tail : List ℕ) → row ≤ 0 → Walked class moved v row tail → tail ≡ group_of v class moved
  unfolding rows of_class
  walked_all row tail e so =
      let none : row ≡ 0 = omega arith in
      subst (λ (n : ℕ). rows class moved v n ++ tail ≡ group_of v class moved) none so.whole
