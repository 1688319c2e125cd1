-- The steps of the checks. Assumes nothing.
use Rattle.std.proofs.Common.{◌≡◌, ℕ, zero, suc, ◌+◌, ◌-◌, ◌<◌, ◌≤◌, true, false, cond, ◌&&◌, eqb, leb, min, List, [], ◌∷◌, ◌++◌, length, get_or, take, drop, set, replicate, Some, None, sym, refl, ap, ◌∙◌, subst, ap₂, ⊎_elim, not-suc-le-zero, arith}
use Rattle.std.specs.List.{zip}
use Rattle.std.proofs.lemmas.List.{at_drop_more, at_drop_all, take_more, length-set, get_or-set_same, get_or-set_other, get_or-replicate}
use Rattle.std.proofs.lemmas.Slice.Zip.{get_or-zip, length-zip}
use Rattle.std.proofs.lemmas.Bool.{and_parts, eqb-true, or_left, or_right, or_from, cond-true, cond-false, le-leb, lt-leb, cases_Bool, cases_eq, cases_order}
use Rattle.fault.specs.declared.Fault.TheVariants.{LargeHalf}
use Rattle.fault.specs.declared.Half.TheVariants.{Front, Back}
use Rattle.checks.proofs.Rows.{At}
use Rattle.checks.specs.Checks.{large_half_of, large_in, among, repeated, repeated_in}
use Rattle.checks.specs.Steps.{large_from, repeated_from, bucket_of, bucket_at, code_at, same_at, Leads, Chained, Passed}

-- a function of the rows from i on, one row more
rows_more : {Y : Type 0} (F : List (ℕ × ℕ) → Y) (fronts backs : List ℕ) (i : ℕ) → i < length fronts → i < length backs
    → F (drop i (zip fronts backs)) ≡ F ((get_or fronts i 0, get_or backs i 0) ∷ drop (i + 1) (zip fronts backs))
rows_more F fronts backs i f b =
    let long = length-zip fronts backs in
    at_drop_more F (zip fronts backs) i (0, 0) (omega arith) ∙ ap (λ x. F (x ∷ drop (i + 1) (zip fronts backs))) (get_or-zip fronts backs i (0, 0) f b)

-- ---- large halves
module _ (n : ℕ) (fronts backs : List ℕ) (i position front back : ℕ) (at : At fronts backs i position front back) where
  large_here : large_from n fronts backs i ≡ cond (leb n front) (Some (LargeHalf Front position)) (cond (leb n back) (Some (LargeHalf Back position)) (large_from n fronts backs (i + 1)))
  unfolding large_from large_half_of
  large_here =
      rw (at.position_is, at.front_is, at.back_is)
      (rows_more (large_half_of (λ (x : ℕ × ℕ). x.0) (λ (x : ℕ × ℕ). x.1) n i) fronts backs i at.in_fronts at.in_backs)

  pub large_front : n ≤ front → large_from n fronts backs i ≡ Some (LargeHalf Front position)
  large_front h = large_here ∙ cond-true _ _ _ (le-leb n front h)

  pub large_back : front < n → n ≤ back → large_from n fronts backs i ≡ Some (LargeHalf Back position)
  large_back f h = large_here ∙ cond-false _ _ _ (lt-leb n front f) ∙ cond-true _ _ _ (le-leb n back h)

  pub large_more : front < n → back < n → large_from n fronts backs i ≡ large_from n fronts backs (i + 1)
  large_more f b = large_here ∙ cond-false _ _ _ (lt-leb n front f) ∙ cond-false _ _ _ (lt-leb n back b)

pub large_start : (n : ℕ) (fronts backs : List ℕ) → large_from n fronts backs 0 ≡ large_in n fronts backs
unfolding large_from large_in
large_start n fronts backs = refl

pub large_end : (n : ℕ) (fronts backs : List ℕ) (i : ℕ) → min (length fronts) (length backs) ≤ i → large_from n fronts backs i ≡ None
unfolding large_from large_half_of
large_end n fronts backs i e =
    let long = length-zip fronts backs in
    at_drop_all (large_half_of (λ (x : ℕ × ℕ). x.0) (λ (x : ℕ × ℕ). x.1) n i) (zip fronts backs) i (omega arith)

-- ---- a code among the first i
module _ {X : Type 0} (front back : X → ℕ) (x d : X) where
  among_first : (xs : List X) (i j : ℕ) → j < i → j < length xs → (eqb (front (get_or xs j d)) (front x) && eqb (back (get_or xs j d)) (back x)) ≡ true → among front back x (take i xs) ≡ true
  unfolding among
  among_first [] i j h l e = absurd (not-suc-le-zero l)
  among_first (y ∷ ys) zero j h l e = absurd (not-suc-le-zero h)
  among_first (y ∷ ys) (suc i) zero h l e = or_left _ _ e
  among_first (y ∷ ys) (suc i) (suc j) h l e = or_right _ _ (among_first ys i j (omega arith) (omega arith) e)

  not_among-first : (xs : List X) (i : ℕ) → i ≤ length xs → ((k : ℕ) → k < i → (eqb (front (get_or xs k d)) (front x) && eqb (back (get_or xs k d)) (back x)) ≡ false) → among front back x (take i xs) ≡ false
  unfolding among
  not_among-first [] zero l h = refl
  not_among-first [] (suc i) l h = absurd (not-suc-le-zero l)
  not_among-first (y ∷ ys) zero l h = refl
  not_among-first (y ∷ ys) (suc i) l h = or_from _ _ (h 0 (omega arith)) (not_among-first ys i (omega arith) (λ k b. h (suc k) (omega arith)))

-- ---- chains
module _ (fronts backs : List ℕ) where
  same_bucket : (buckets k i : ℕ) → same_at fronts backs k i ≡ true → bucket_at fronts backs buckets k ≡ bucket_at fronts backs buckets i
  unfolding bucket_at
  same_bucket buckets k i e =
      let both = and_parts (eqb (get_or fronts k 0) (get_or fronts i 0)) (eqb (get_or backs k 0) (get_or backs i 0)) e in
      ap₂ (bucket_of buckets) (eqb-true (get_or fronts k 0) (get_or fronts i 0) both.0) (eqb-true (get_or backs k 0) (get_or backs i 0) both.1)

  -- positions in another bucket have another code
  other_bucket : (buckets k i : ℕ) → (bucket_at fronts backs buckets k ≡ bucket_at fronts backs buckets i → ⊥) → same_at fronts backs k i ≡ false
  other_bucket buckets k i ne =
      ⊎_elim {C = same_at fronts backs k i ≡ false} (λ e. absurd (ne (same_bucket buckets k i e))) (λ e. e) (cases_Bool (same_at fronts backs k i))

  pub chain_empty : (heads links : List ℕ) → heads ≡ replicate (length heads) 0 → Chained fronts backs heads links 0
  chain_empty heads links e =
      record {
        last = λ v h.
            let none : get_or heads v 0 ≡ 0 = ap (λ xs. get_or xs v 0) e ∙ get_or-replicate (length heads) v 0 0 h in
            record {
              within = omega arith;
              own = λ some. absurd (omega arith);
              skips = λ k a b _. absurd (not-suc-le-zero b);
            };
        before = λ j h. absurd (not-suc-le-zero h);
      }

  module _ (heads links : List ℕ) (i : ℕ) (chained : Chained fronts backs heads links i) where
    chain_head : (v : ℕ) → v < length heads → v ≡ bucket_of (length heads) (get_or fronts i 0) (get_or backs i 0) → Passed fronts backs (length heads) i (get_or heads v 0)
    unfolding bucket_at
    chain_head v h e =
        let lead = chained.last v h in
        record {
          within = lead.within;
          own = λ some. lead.own some ∙ e;
          unlike = λ k a b. other_bucket (length heads) k i (λ s. lead.skips k a b (s ∙ sym e));
        }

    chain_next : (row : ℕ) → Passed fronts backs (length heads) i row → 0 < row → same_at fronts backs (row - 1) i ≡ false → Passed fronts backs (length heads) i (get_or links (row - 1) 0)
    chain_next row passed some differs =
        let below : row - 1 < i = omega (arith, passed.within) in
        let lead = chained.before (row - 1) below in
        let own = passed.own some in
        record {
          within = omega (arith, lead.within);
          own = λ more. lead.own more ∙ own;
          unlike = λ k a b.
              ⊎_elim {C = same_at fronts backs k i ≡ false}
              (λ same. subst (λ (n : ℕ). same_at fronts backs n i ≡ false) (sym same) differs)
              (⊎_elim {C = same_at fronts backs k i ≡ false}
              (λ less. other_bucket (length heads) k i (λ s. lead.skips k a less (s ∙ sym own)))
              (λ above. passed.unlike k (omega arith) b))
              (cases_order k (row - 1));
        }

    chain_enter : (v : ℕ) → i < length links → v < length heads → v ≡ bucket_of (length heads) (get_or fronts i 0) (get_or backs i 0)
        → Chained fronts backs (set heads v (i + 1)) (set links i (get_or heads v 0)) (i + 1)
    unfolding bucket_at
    chain_enter v room h e =
        let long = length-set heads v (i + 1) in
        record {
          last = λ w l.
              subst (λ (n : ℕ). Leads fronts backs n w (get_or (set heads v (i + 1)) w 0) (i + 1)) (sym long)
              (⊎_elim {C = Leads fronts backs (length heads) w (get_or (set heads v (i + 1)) w 0) (i + 1)}
              (λ same.
              subst (λ (n : ℕ). Leads fronts backs (length heads) n (get_or (set heads v (i + 1)) n 0) (i + 1)) (sym same)
              (subst (λ (n : ℕ). Leads fronts backs (length heads) v n (i + 1)) (sym (get_or-set_same heads v (i + 1) 0 h))
              (record {
                within = omega arith;
                own = λ _. ap (bucket_at fronts backs (length heads)) (omega arith) ∙ sym e;
                skips = λ k a b _. absurd (omega arith);
              })))
              (λ other.
              let lead = chained.last w (omega arith) in
              subst (λ (n : ℕ). Leads fronts backs (length heads) w n (i + 1)) (sym (get_or-set_other heads v w (i + 1) 0 other))
              (record {
                within = omega (arith, lead.within);
                own = lead.own;
                skips = λ k a b s.
                    ⊎_elim {C = ⊥}
                    (λ here. other (sym s ∙ ap (bucket_at fronts backs (length heads)) here ∙ sym e))
                    (λ ne. lead.skips k a (omega arith) s)
                    (cases_eq k i);
              }))
              (cases_eq w v));
          before = λ j l.
              subst (λ (n : ℕ). Leads fronts backs n (bucket_at fronts backs n j) (get_or (set links i (get_or heads v 0)) j 0) j) (sym long)
              (⊎_elim {C = Leads fronts backs (length heads) (bucket_at fronts backs (length heads) j) (get_or (set links i (get_or heads v 0)) j 0) j}
              (λ same.
              subst (λ (n : ℕ). Leads fronts backs (length heads) (bucket_at fronts backs (length heads) n) (get_or (set links i (get_or heads v 0)) n 0) n) (sym same)
              (subst (λ (n : ℕ). Leads fronts backs (length heads) (bucket_at fronts backs (length heads) i) n i) (sym (get_or-set_same links i (get_or heads v 0) 0 room))
              (subst (λ (n : ℕ). Leads fronts backs (length heads) n (get_or heads v 0) i) e (chained.last v h))))
              (λ other.
              subst (λ (n : ℕ). Leads fronts backs (length heads) (bucket_at fronts backs (length heads) j) n j) (sym (get_or-set_other links i j (get_or heads v 0) 0 other))
              (chained.before j (omega arith)))
              (cases_eq j i));
        }

-- ---- the search
module _ (fronts backs : List ℕ) (equal : length backs ≡ length fronts) where
  search_here : (i : ℕ) → i < length fronts
      → repeated_from fronts backs i
      ≡ cond (among (λ (x : ℕ × ℕ). x.0) (λ (x : ℕ × ℕ). x.1) (get_or fronts i 0, get_or backs i 0) (take i (zip fronts backs))) (Some i) (repeated_from fronts backs (i + 1))
  unfolding repeated_from repeated
  search_here i h =
      let rows = zip fronts backs in
      let long = length-zip fronts backs in
      let x : ℕ × ℕ = (get_or fronts i 0, get_or backs i 0) in
      let back : i < length backs = omega arith in
      let seen : take i rows ++ x ∷ [] ≡ take (i + 1) rows =
      ap (λ y. take i rows ++ y ∷ []) (sym (get_or-zip fronts backs i (0, 0) h back)) ∙ sym (take_more rows i (0, 0) (omega arith)) in
      rows_more (repeated (λ (x : ℕ × ℕ). x.0) (λ (x : ℕ × ℕ). x.1) (take i rows) i) fronts backs i h back
      ∙ ap (λ (s : List (ℕ × ℕ)). cond (among (λ (x : ℕ × ℕ). x.0) (λ (x : ℕ × ℕ). x.1) x (take i rows)) (Some i) (repeated (λ (x : ℕ × ℕ). x.0) (λ (x : ℕ × ℕ). x.1) s (i + 1) (drop (i + 1) rows))) seen

  search_found : (i j : ℕ) → j < i → i < length fronts → same_at fronts backs j i ≡ true → repeated_from fronts backs i ≡ Some i
  search_found i j h l e =
      let rows = zip fronts backs in
      let long = length-zip fronts backs in
      let x : ℕ × ℕ = (get_or fronts i 0, get_or backs i 0) in
      let same = get_or-zip fronts backs j (0, 0) (omega arith) (omega arith) in
      search_here i l
      ∙ cond-true _ (Some i) (repeated_from fronts backs (i + 1))
      (among_first (λ (x : ℕ × ℕ). x.0) (λ (x : ℕ × ℕ). x.1) x (0, 0) rows i j h (omega arith)
      (ap (λ (y : ℕ × ℕ). eqb y.0 x.0 && eqb y.1 x.1) same ∙ e))

  search_more : (buckets i row : ℕ) → i < length fronts → Passed fronts backs buckets i row → row ≤ 0 → repeated_from fronts backs i ≡ repeated_from fronts backs (i + 1)
  search_more buckets i row l passed end =
      let rows = zip fronts backs in
      let long = length-zip fronts backs in
      let x : ℕ × ℕ = (get_or fronts i 0, get_or backs i 0) in
      search_here i l
      ∙ cond-false _ (Some i) (repeated_from fronts backs (i + 1))
      (not_among-first (λ (x : ℕ × ℕ). x.0) (λ (x : ℕ × ℕ). x.1) x (0, 0) rows i (omega arith)
      (λ k b.
      ap (λ (y : ℕ × ℕ). eqb y.0 x.0 && eqb y.1 x.1) (get_or-zip fronts backs k (0, 0) (omega arith) (omega arith))
      ∙ passed.unlike k (omega arith) b))

  pub search_end : (i : ℕ) → length fronts ≤ i → repeated_from fronts backs i ≡ None
  unfolding repeated_from repeated
  search_end i h =
      let long = length-zip fronts backs in
      at_drop_all (repeated (λ (x : ℕ × ℕ). x.0) (λ (x : ℕ × ℕ). x.1) (take i (zip fronts backs)) i) (zip fronts backs) i (omega arith)

  pub search_start : repeated_from fronts backs 0 ≡ repeated_in fronts backs
  unfolding repeated_from repeated_in
  search_start = refl

  -- at the row at position, in bucket v
  module _ (heads links : List ℕ) (i position front back v : ℕ) (at : At fronts backs i position front back) (chained : Chained fronts backs heads links i)
      (h : v < length heads) (bucket : v ≡ bucket_of (length heads) front back) where
    bucket_is : v ≡ bucket_of (length heads) (get_or fronts i 0) (get_or backs i 0)
    bucket_is = bucket ∙ ap₂ (bucket_of (length heads)) at.front_is at.back_is

    chained_here : Chained fronts backs heads links position
    chained_here = subst (λ (k : ℕ). Chained fronts backs heads links k) (sym at.position_is) chained

    pub first_row : (position < length fronts) × Passed fronts backs (length heads) position (get_or heads v 0)
    first_row =
        (omega (arith, at.in_fronts, at.position_is), subst (λ (k : ℕ). Passed fronts backs (length heads) k (get_or heads v 0)) (sym at.position_is) (chain_head fronts backs heads links i chained v h bucket_is))

    module _ (row : ℕ) (passed : Passed fronts backs (length heads) position row) where
      same_here : same_at fronts backs (row - 1) position ≡ code_at fronts backs (row - 1) front back
      same_here =
          rw (at.front_is, at.back_is)
          (ap (same_at fronts backs (row - 1)) at.position_is)

      pub next_row : 0 < row → code_at fronts backs (row - 1) front back ≡ false → (position < length fronts) × Passed fronts backs (length heads) position (get_or links (row - 1) 0)
      next_row some differs = (omega (arith, at.in_fronts, at.position_is), chain_next fronts backs heads links position chained_here row passed some (same_here ∙ differs))

      pub row_found : 0 < row → code_at fronts backs (row - 1) front back ≡ true → repeated_from fronts backs i ≡ Some position
      row_found some same =
          ap (repeated_from fronts backs) (sym at.position_is)
          ∙ search_found position (row - 1) (omega (arith, passed.within)) (omega (arith, at.in_fronts, at.position_is)) (same_here ∙ same)

      pub rows_end : row ≤ 0 → position < length links
          → (repeated_from fronts backs (i + 1) ≡ repeated_from fronts backs i) × Chained fronts backs (set heads v (position + 1)) (set links position (get_or heads v 0)) (i + 1)
      rows_end end room = (
        sym (search_more (length heads) i row at.in_fronts (subst (λ (k : ℕ). Passed fronts backs (length heads) k row) at.position_is passed) end),
        subst (λ (k : ℕ). Chained fronts backs (set heads v (k + 1)) (set links k (get_or heads v 0)) (i + 1)) (sym at.position_is)
            (chain_enter fronts backs heads links i chained v (omega (arith, room, at.position_is)) h bucket_is),
      )
