-- A build is accepted exactly if what it asks for is met. Assumes nothing.
use Rattle.std.proofs.Common.{◌≡◌, ℕ, ◌*◌, ◌^◌, ◌≤◌, Bool, true, false, ◌||◌, eqb, ltb, List, length, None, Ok, Err, Result, sym, refl, ap, ◌∙◌, subst, ap₂, arith}
use Rattle.std.proofs.lemmas.Bool.{cond-false, ltb-false, le-ltb, eqb-false, ne_eqb, or_parts, or_from}
use Rattle.fault.specs.declared.Fault.{Fault}
use Rattle.fault.specs.declared.Fault.TheVariants.{HalfWidth, ShortList, NoMembers, TooManyMembers}
use Rattle.fault.specs.declared.List.TheVariants.{First, Second, Slots, Work}
use Rattle.lists.specs.Size.{refuse, and_then, size_of, checked_size_of, checked_size_with_work_of, work_per_place}
use Rattle.rule.specs.Places.{shared_pairs_of}
use Rattle.rule.proofs.Laws.{bounded_eighth}
use Rattle.checks.specs.Checks.{large_half_of}
use Rattle.checks.proofs.Large.{none_large_fit, fit-none_large}
use Rattle.checks.proofs.Repeating.{none-repeated-distinct, distinct-none-repeated}
use Rattle.build.specs.declared.Member.{Member}
use Rattle.build.specs.Checked.{places_per_member, counts_checked, halves_checked, codes_checked}
use Rattle.build.specs.Built.{half, answer}
use Rattle.build.specs.Laws.{Meets, Lawful}
use Rattle.build.proofs.Crossing.{none_found}

-- ---- accepted answers
refuse-accepted : {X : Type 0} (test : Bool) (fault : Fault) (rest : Result X Fault) (x : X) → refuse test fault rest ≡ Ok x → (test ≡ false) × (rest ≡ Ok x)
refuse-accepted true fault rest x e = absurd cc
refuse-accepted false fault rest x e = (refl, e)

then_accepted : {X Y : Type 0} (a : Result X Fault) (next : X → Result Y Fault) (y : Y) → and_then a next ≡ Ok y → (x : X) × (a ≡ Ok x) × (next x ≡ Ok y)
then_accepted (Ok x) next y e = (x, refl, e)
then_accepted (Err fault) next y e = absurd cc

accept_then : {X Y : Type 0} (a : Result X Fault) (next : X → Result Y Fault) (x : X) (b : Result Y Fault) → a ≡ Ok x → next x ≡ b → and_then a next ≡ b
accept_then a next x b e h = ap (λ a. and_then a next) e ∙ h

-- ---- the counts
pub record Counted (r members first second slots work n : ℕ) : Type 0 where
  pub size : n ≡ 2 ^ r
  pub low : 4 ≤ r
  pub high : r ≤ 16
  pub first_long : 2 ^ r ≤ first
  pub second_long : 2 ^ r ≤ second
  pub slots_long : 2 ^ r ≤ slots
  pub work_long : work_per_place * 2 ^ r ≤ work
  pub some : 1 ≤ members
  pub few : places_per_member * members ≤ 2 ^ r

module _ (r members first second slots work : ℕ) where
  pub accepted_counted : (n : ℕ) → counts_checked r members first second slots work ≡ Ok n → Counted r members first second slots work n
  accepted_counted n e =
      let whole = then_accepted (checked_size_with_work_of r first second slots work) (λ n. refuse (eqb members 0) NoMembers (refuse (ltb n (places_per_member * members)) (TooManyMembers members) (Ok n))) n e in
      let none = refuse-accepted (eqb members 0) NoMembers _ n whole.2 in
      let many = refuse-accepted (ltb whole.0 (places_per_member * members)) (TooManyMembers members) (Ok whole.0) n none.1 in
      let lists = then_accepted (checked_size_of r first second slots) (λ n. refuse (ltb work (work_per_place * n)) (ShortList Work work) (Ok n)) whole.0 whole.1 in
      let fourth = refuse-accepted (ltb work (work_per_place * lists.0)) (ShortList Work work) (Ok lists.0) whole.0 lists.2 in
      let size = then_accepted (size_of r) (λ n. refuse (ltb first n) (ShortList First first) (refuse (ltb second n) (ShortList Second second) (refuse (ltb slots n) (ShortList Slots slots) (Ok n)))) lists.0 lists.1 in
      let one = refuse-accepted (ltb first size.0) (ShortList First first) (refuse (ltb second size.0) (ShortList Second second) (refuse (ltb slots size.0) (ShortList Slots slots) (Ok size.0))) lists.0 size.2 in
      let two = refuse-accepted (ltb second size.0) (ShortList Second second) (refuse (ltb slots size.0) (ShortList Slots slots) (Ok size.0)) lists.0 one.1 in
      let three = refuse-accepted (ltb slots size.0) (ShortList Slots slots) (Ok size.0) lists.0 two.1 in
      let width = refuse-accepted (ltb r 4 || ltb 16 r) (HalfWidth r) (Ok (2 ^ r)) size.0 size.1 in
      let bounds = or_parts (ltb r 4) (ltb 16 r) width.0 in
      let n1 : whole.0 ≡ n = cc many.1 in
      let n2 : lists.0 ≡ whole.0 = cc fourth.1 in
      let n3 : size.0 ≡ lists.0 = cc three.1 in
      let n4 : 2 ^ r ≡ size.0 = cc width.1 in
      record {
        size = omega arith;
        low = ltb-false r 4 bounds.0;
        high = ltb-false 16 r bounds.1;
        first_long = omega (arith, ltb-false first size.0 one.0);
        second_long = omega (arith, ltb-false second size.0 two.0);
        slots_long = omega (arith, ltb-false slots size.0 three.0);
        work_long = omega (arith, ltb-false work (work_per_place * lists.0) fourth.0);
        some = let ne = eqb-false members 0 none.0 in omega arith;
        few = omega (arith, ltb-false whole.0 (places_per_member * members) many.0);
      }

  pub counted_accepted : (n : ℕ) → Counted r members first second slots work n → counts_checked r members first second slots work ≡ Ok (2 ^ r)
  counted_accepted n h =
      let size : size_of r ≡ Ok (2 ^ r) = cond-false _ _ _ (or_from (ltb r 4) (ltb 16 r) (le-ltb r 4 h.low) (le-ltb 16 r h.high)) in
      let lists : checked_size_of r first second slots ≡ Ok (2 ^ r) =
      accept_then (size_of r) _ (2 ^ r) (Ok (2 ^ r)) size
      (cond-false _ _ _ (le-ltb first (2 ^ r) h.first_long) ∙ cond-false _ _ _ (le-ltb second (2 ^ r) h.second_long) ∙ cond-false _ _ _ (le-ltb slots (2 ^ r) h.slots_long)) in
      let whole : checked_size_with_work_of r first second slots work ≡ Ok (2 ^ r) =
      accept_then (checked_size_of r first second slots) _ (2 ^ r) (Ok (2 ^ r)) lists (cond-false _ _ _ (le-ltb work (work_per_place * 2 ^ r) h.work_long)) in
      accept_then (checked_size_with_work_of r first second slots work) _ (2 ^ r) (Ok (2 ^ r)) whole
      (cond-false _ _ _ (ne_eqb members 0 (λ e. omega (arith, h.some))) ∙ cond-false _ _ _ (le-ltb (2 ^ r) (places_per_member * members) h.few))

module _ {C V : Type 0} (front back : C → ℕ) (r : ℕ) (ms : List (Member C V)) (first second slots work : ℕ) where
  accepted_meets : (x : ℕ × ℕ) → answer front back r ms first second slots work ≡ Ok x → Meets front back r ms first second slots work
  unfolding answer codes_checked
  accepted_meets x e =
      let counts = then_accepted (counts_checked r (length ms) first second slots work) _ x e in
      let counted = accepted_counted r (length ms) first second slots work counts.0 counts.1 in
      let codes = then_accepted (codes_checked (half front) (half back) counts.0 ms) _ x counts.2 in
      let none = none_found _ _ codes.1 in
      record {
        low = counted.low;
        high = counted.high;
        first_long = counted.first_long;
        second_long = counted.second_long;
        slots_long = counted.slots_long;
        work_long = counted.work_long;
        some = counted.some;
        few = counted.few;
        fit = none_large_fit (half front) (half back) r 0 ms (subst (λ (n : ℕ). large_half_of (half front) (half back) n 0 ms ≡ None) counted.size none.0);
        distinct = none-repeated-distinct (half front) (half back) 0 ms none.1;
      }

  pub meets_accepted : Meets front back r ms first second slots work → answer front back r ms first second slots work ≡ Ok (length ms, shared_pairs_of (half front) (half back) r ms)
  unfolding answer codes_checked
  meets_accepted meets =
      let counted : Counted r (length ms) first second slots work (2 ^ r) =
      record {
        size = refl;
        low = meets.low;
        high = meets.high;
        first_long = meets.first_long;
        second_long = meets.second_long;
        slots_long = meets.slots_long;
        work_long = meets.work_long;
        some = meets.some;
        few = meets.few;
      } in
      let found = Ok (length ms, shared_pairs_of (half front) (half back) r ms) in
      ap (λ (a : Result ℕ Fault). and_then a (λ n. and_then (codes_checked (half front) (half back) n ms) (λ _. found))) (counted_accepted r (length ms) first second slots work (2 ^ r) counted)
      ∙ ap₂ (λ large twice. and_then (halves_checked large twice) (λ _. found))
      (fit-none_large (half front) (half back) r 0 ms meets.fit) (distinct-none-repeated (half front) (half back) 0 ms meets.distinct)

  pub lawful : (a : Result (ℕ × ℕ) Fault) → a ≡ answer front back r ms first second slots work → Lawful front back r ms first second slots work a
  lawful (Ok x) e =
      let meets = accepted_meets x (sym e) in
      (meets, bounded_eighth (half front) (half back) r ms meets.fit meets.distinct meets.high meets.few)
  lawful (Err fault) e = λ meets. let found = meets_accepted meets in cc
