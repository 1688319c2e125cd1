-- How the classes are taken one after the other, in passes. Assumes nothing.
use Rattle.std.proofs.Common.{◌≡◌, ℕ, zero, suc, ◌+◌, ◌*◌, ◌^◌, ◌<◌, ◌≤◌, Bool, true, false, cond, eqb, leb, ◌≢◌, List, [], ◌∷◌, ◌++◌, length, get_or, set, replicate, sym, refl, ap, ◌∙◌, subst, ⊎_elim, zero-add, add-one, pow_mono, arith}
use Rattle.std.specs.List.{zip}
use Rattle.std.proofs.lemmas.List.FromFn.{fill_by_all}
use Rattle.std.proofs.lemmas.List.{append-nil, length-append, length-map, length-set, get_or-set_same, get_or-set_other, get_or-replicate}
use Rattle.std.proofs.lemmas.Slice.Zip.{length-zip}
use Rattle.std.proofs.lemmas.Bool.{cases_eq, eq-eqb, ne_eqb, cond_both, cond-true}
use Rattle.rule.specs.Choose.{choose}
use Rattle.rule.specs.Round.{falling, keep, behind, of_class, order, taken, displacement}
use Rattle.displace.specs.Columns.{class_of, moved_of, group_of, displacements, ColumnsFit}
use Rattle.displace.specs.Counts.{Counts, Room, Settles, results}
use Rattle.displace.specs.Passes.{Taken, Passable, passing, results_of}
use Rattle.rule.proofs.Halving.{choose_settled, count-all}
use Rattle.rule.proofs.Sums.{total, total_append}
use Rattle.displace.proofs.Counting.{counts_none}

-- ---- a class that is taken first has no pairs
choose_free : (k : ℕ) (ms : List ℕ) → choose k ms [] ≡ 0
unfolding choose
choose_free k ms =
    ap (λ n. choose n ms []) (sym (zero-add k)) ∙ (choose_settled 0 k ms [] (omega (arith, count-all (choose 0 ms []) ms []))).0

-- ---- how many results there are
-- how often v stands in a list
abbrev times : ℕ → List ℕ → ℕ
times v cs = total (λ c. cond (eqb v c) 1 0) cs

times_past : (p : ℕ → Bool) (v n : ℕ) → n ≤ v → times v (keep p (falling n)) ≡ 0
unfolding total keep falling
times_past p v zero h = refl
times_past p v (suc n) h =
    let ne : v ≡ n → ⊥ = λ e. omega arith in
    let rest = times_past p v n (omega arith) in
    cond_both (p n) (n ∷ keep p (falling n)) (keep p (falling n)) (λ cs. times v cs ≡ 0) (λ _. rw (ne_eqb v n ne) (omega arith)) (λ _. rest)

times_keep : (p : ℕ → Bool) (v n : ℕ) → times v (keep p (falling n)) ≤ 1
unfolding total keep falling
times_keep p v zero = omega arith
times_keep p v (suc n) =
    let rest = times_keep p v n in
    cond_both (p n) (n ∷ keep p (falling n)) (keep p (falling n)) (λ cs. times v cs ≤ 1)
    (λ _.
    ⊎_elim {C = cond (eqb v n) 1 0 + times v (keep p (falling n)) ≤ 1}
    (λ same. rw (eq-eqb v n same, same, times_past p n n (omega arith)) (omega arith))
    (λ ne. rw (ne_eqb v n ne) (omega arith))
    (cases_eq v n))
    (λ _. rest)

-- the members of the classes of a list
abbrev sizes : List (ℕ × ℕ) → List ℕ → ℕ
sizes xs cs = total (λ c. length (of_class class_of moved_of c xs)) cs

sizes_none : (cs : List ℕ) → sizes [] cs ≡ 0
unfolding total of_class
sizes_none [] = refl
sizes_none (c ∷ cs) = rw (sizes_none cs)

sizes_more : (x : ℕ × ℕ) (xs : List (ℕ × ℕ)) (cs : List ℕ) → sizes (x ∷ xs) cs ≡ times (class_of x) cs + sizes xs cs
unfolding total of_class
sizes_more x xs [] = refl
sizes_more x xs (c ∷ cs) =
    let rest = sizes_more x xs cs in
    elim (eqb (class_of x) c)
    as (λ b. length (cond b (moved_of x ∷ of_class class_of moved_of c xs) (of_class class_of moved_of c xs)) + sizes (x ∷ xs) cs
    ≡ (cond b 1 0 + times (class_of x) cs) + (length (of_class class_of moved_of c xs) + sizes xs cs))
    [ true ↦ omega arith | false ↦ omega arith ]

sizes_le : (xs : List (ℕ × ℕ)) (cs : List ℕ) → ((v : ℕ) → times v cs ≤ 1) → sizes xs cs ≤ length xs
sizes_le [] cs once = omega (arith, sizes_none cs)
sizes_le (x ∷ xs) cs once = omega (arith, sizes_more x xs cs, once (class_of x), sizes_le xs cs once)

length_taken : (r : ℕ) (xs : List (ℕ × ℕ)) (cs : List ℕ) → length (taken class_of moved_of r xs cs) ≡ sizes xs cs
unfolding taken total
length_taken r xs [] = refl
length_taken r xs (c ∷ cs) = simp (length-append, length-map, length_taken r xs cs)

-- ---- the classes that have been taken
pub taken_none : (r : ℕ) (class moved counters out : List ℕ) → counters ≡ replicate (2 * 2 ^ r) 0 → out ≡ replicate (length out) 0 → Taken r class moved [] counters out
unfolding results_of taken behind
taken_none r class moved counters out e f =
    record {
      counted = rw e (counts_none r);
      displaced = λ v h. ap (λ xs. get_or xs v 0) f ∙ get_or-replicate (length out) v 0 0 h ∙ sym (choose_free r (group_of v class moved));
    }

taken_more : (r : ℕ) (class moved cs before after out : List ℕ) (v d : ℕ) → v < length out → Settles r (group_of v class moved) d before after
    → Taken r class moved cs before out → Taken r class moved (v ∷ cs) after (set out v d)
unfolding results_of taken behind group_of
taken_more r class moved cs before after out v d h settles so =
    let ys = taken class_of moved_of r (zip class moved) cs in
    let ms = of_class class_of moved_of v (zip class moved) in
    let new = settles ys so.counted in
    record {
      counted = subst (λ (e : ℕ). Counts r (results e ms ++ ys) after) new.0 new.1;
      displaced =
          λ u l.
          let l' : u < length out = rw length-set at l in
          let Q : ℕ → Type 0 = λ w. get_or (set out v d) w 0 ≡ choose r (of_class class_of moved_of w (zip class moved)) (taken class_of moved_of r (zip class moved) (cond (eqb v w) cs (behind w cs))) in
          ⊎_elim {C = Q u}
          (λ e. subst Q e (get_or-set_same out v d 0 h ∙ new.0 ∙ ap (λ zs. choose r ms (taken class_of moved_of r (zip class moved) zs)) (sym (cond-true _ cs (behind v cs) (eq-eqb v v refl)))))
          (λ ne.
          let ne' : u ≢ v = λ e. ne (sym e) in
          rw (ne_eqb v u ne, get_or-set_other out v u d 0 ne') (so.displaced u l'))
          (cases_eq v u);
    }

-- ---- a pass
module _ (test : ℕ → Bool) (r : ℕ) (class moved : List ℕ) where
  passing_more : (v : ℕ) (b : Bool) → test (length (group_of v class moved)) ≡ b
      → passing test class moved (v + 1) ≡ cond b (v ∷ passing test class moved v) (passing test class moved v)
  unfolding passing keep falling
  passing_more v b e = rw (add-one v, e)

  -- no class passes twice
  passing_once : (n v : ℕ) → times v (passing test class moved n) ≤ 1
  unfolding passing
  passing_once n v = times_keep (λ c. test (length (group_of c class moved))) v n

  module _ (before first : List ℕ) where
    -- the pass has come to class v, whatever classes were taken before it
    pub record Passes (v : ℕ) (counters out : List ℕ) : Type 0 where
      pub taken_on : (cs : List ℕ) → Taken r class moved cs before first → Taken r class moved (passing test class moved v ++ cs) counters out

    pub passes_none : Passes 0 before first
    unfolding passing keep falling
    passes_none = record { taken_on = λ cs so. so }

    module _ (v : ℕ) (counters out ms : List ℕ) (gathered : ms ≡ group_of v class moved) (so : Passes v counters out) where
      -- a class that passes finds room, since none passes twice
      pub passes_room : test (length ms) ≡ true → Passable r class moved before first → Room r (length ms) counters
      unfolding results_of group_of total
      passes_room e room =
          let cs = passing test class moved v in
          let xs = zip class moved in
          let more = passing_more v true (ap (λ (ns : List ℕ). test (length ns)) (sym gathered) ∙ e) in
          let once = sizes_le xs (v ∷ cs) (λ u. subst (λ (ds : List ℕ). times u ds ≤ 1) more (passing_once (v + 1) u)) in
          let all = length_taken r xs (cs ++ room.0) in
          let rest = length_taken r xs room.0 in
          let two = total_append (λ c. length (of_class class_of moved_of c xs)) cs room.0 in
          let long = length-zip class moved in
          let many : length ms ≡ length (of_class class_of moved_of v xs) = ap (λ (ns : List ℕ). length ns) gathered in
          (taken class_of moved_of r xs (cs ++ room.0), (so.taken_on room.0 room.1).counted, omega (arith, room.2))

      pub passes_take : (after : List ℕ) (d : ℕ) → test (length ms) ≡ true → v < length out → Settles r ms d counters after → Passes (v + 1) after (set out v d)
      passes_take after d e h settles =
          let more = passing_more v true (ap (λ (ns : List ℕ). test (length ns)) (sym gathered) ∙ e) in
          record {
            taken_on =
                λ cs first.
                rw more
                (taken_more r class moved (passing test class moved v ++ cs) counters after out v d h
                (subst (λ (ns : List ℕ). Settles r ns d counters after) gathered settles) (so.taken_on cs first));
          }

      pub passes_skip : test (length ms) ≡ false → Passes (v + 1) counters out
      passes_skip e =
          let same = passing_more v false (ap (λ (ns : List ℕ). test (length ns)) (sym gathered) ∙ e) in
          record { taken_on = λ cs first. rw same (so.taken_on cs first) }

-- ---- both passes
few_rows : (r : ℕ) (class moved : List ℕ) → ColumnsFit r class moved → length class ≤ 65536
few_rows r class moved fit = let p = pow_mono {i = r} {j = 16} fit.width in omega (arith, fit.few)

pub passable_first : (r : ℕ) (class moved counters out : List ℕ) → ColumnsFit r class moved → Taken r class moved [] counters out → Passable r class moved counters out
unfolding results_of taken
passable_first r class moved counters out fit so = ([], so, let few = few_rows r class moved fit in omega arith)

pub passable_next : (test : ℕ → Bool) (r : ℕ) (class moved counters out : List ℕ) → ColumnsFit r class moved → Taken r class moved (passing test class moved (2 ^ r) ++ []) counters out
    → Passable r class moved counters out
unfolding results_of
passable_next test r class moved counters out fit so =
    let few = few_rows r class moved fit in
    let cs = passing test class moved (2 ^ r) in
    let once = sizes_le (zip class moved) cs (passing_once test r class moved (2 ^ r)) in
    let long = length-zip class moved in
    let all = length_taken r (zip class moved) cs in
    (cs ++ [], so, rw append-nil (omega arith))

pub taken_all : (r : ℕ) (class moved counters out : List ℕ) → length out ≡ 2 ^ r
    → Taken r class moved (passing (λ n. eqb n 1) class moved (2 ^ r) ++ (passing (λ n. leb 2 n) class moved (2 ^ r) ++ [])) counters out
    → out ≡ displacements r class moved
unfolding displacements displacement order passing results_of group_of
taken_all r class moved counters out long so =
    let whole = append-nil (passing (λ n. leb 2 n) class moved (2 ^ r)) in
    fill_by_all (displacement class_of moved_of r (zip class moved)) out (2 ^ r) 0 long
    (λ v h.
    so.displaced v (omega arith)
    ∙ ap (λ ds. choose r (of_class class_of moved_of v (zip class moved)) (taken class_of moved_of r (zip class moved) (behind v (passing (λ n. eqb n 1) class moved (2 ^ r) ++ ds)))) whole)
