-- No position is repeated exactly if no two members have the same halves. Assumes nothing.
use Rattle.std.proofs.Common.{◌≡◌, ℕ, ◌+◌, false, ◌&&◌, eqb, List, [], ◌∷◌, ◌++◌, map, None, refl, ◌∙◌, ⊎_elim}
use Rattle.std.proofs.lemmas.List.{map_push}
use Rattle.std.proofs.lemmas.Bool.{and_parts, and_from, eqb-true, eq-eqb, or_from, or_parts, cond-false, cases_Bool, both_ways}
use Rattle.rule.specs.Places.{Each, Apart, Distinct}
use Rattle.rule.proofs.Each.{each_with, each_append}
use Rattle.checks.specs.Checks.{among, repeated}
use Rattle.checks.proofs.Large.{test_failed}

append-each : {X : Type 0} (P : X → Type 0) (xs ys : List X) → Each P (xs ++ ys) → Each P xs × Each P ys
unfolding Each
append-each P [] ys h = (tt, h)
append-each P (x ∷ xs) ys h = let rest = append-each P xs ys h.1 in ((h.0, rest.0), rest.1)

each_both : {X : Type 0} (P Q : X → Type 0) (xs : List X) → Each P xs → Each Q xs → Each (λ x. P x × Q x) xs
unfolding Each
each_both P Q [] h l = tt
each_both P Q (x ∷ xs) h l = ((h.0, l.0), each_both P Q xs h.1 l.1)

module _ {X : Type 0} (front back : X → ℕ) where
  abbrev Same : X → X → Type 0
  Same x y = (front x ≡ front y) × (back x ≡ back y)

  -- x has the halves of none of them
  abbrev New : List X → X → Type 0
  New seen x = Each (λ y. Same y x → ⊥) seen

  not_among_new : (x : X) (seen : List X) → among front back x seen ≡ false → New seen x
  unfolding among Each
  not_among_new x [] e = tt
  not_among_new x (y ∷ ys) e =
      let parts = or_parts (eqb (front y) (front x) && eqb (back y) (back x)) (among front back x ys) e in
      (λ s. both_ways _ parts.0 (and_from _ _ (eq-eqb (front y) (front x) s.0) (eq-eqb (back y) (back x) s.1)), not_among_new x ys parts.1)

  new_not_among : (x : X) (seen : List X) → New seen x → among front back x seen ≡ false
  unfolding among Each
  new_not_among x [] h = refl
  new_not_among x (y ∷ ys) h =
      let test = eqb (front y) (front x) && eqb (back y) (back x) in
      or_from test (among front back x ys)
      (⊎_elim {C = test ≡ false}
      (λ e. let both = and_parts (eqb (front y) (front x)) (eqb (back y) (back x)) e in absurd (h.0 (eqb-true (front y) (front x) both.0, eqb-true (back y) (back x) both.1)))
      (λ e. e)
      (cases_Bool test))
      (new_not_among x ys h.1)

  none-repeated_new : (seen : List X) (position : ℕ) (xs : List X) → repeated front back seen position xs ≡ None → Each (New seen) xs × Apart Same xs
  unfolding repeated Each Apart
  none-repeated_new seen position [] e = (tt, tt)
  none-repeated_new seen position (x ∷ xs) e =
      let now = test_failed (among front back x seen) position _ e in
      let rest = none-repeated_new (seen ++ x ∷ []) (position + 1) xs now.1 in (
        (not_among_new x seen now.0, each_with (λ y h. (append-each (λ z. Same z y → ⊥) seen (x ∷ []) h).0) xs rest.0),
        (each_with (λ y h. (append-each (λ z. Same z y → ⊥) seen (x ∷ []) h).1.0) xs rest.0, rest.1),
      )

  new_none-repeated : (seen : List X) (position : ℕ) (xs : List X) → Each (New seen) xs → Apart Same xs → repeated front back seen position xs ≡ None
  unfolding repeated Each Apart
  new_none-repeated seen position [] h apart = refl
  new_none-repeated seen position (x ∷ xs) h apart =
      cond-false _ _ _ (new_not_among x seen h.0)
      ∙ new_none-repeated (seen ++ x ∷ []) (position + 1) xs
      (each_with (λ y l. each_append (λ z. Same z y → ⊥) seen (x ∷ []) l.0 (l.1, tt)) xs (each_both (New seen) (λ y. Same x y → ⊥) xs h.1 apart.0))
      apart.1

  new_all : (xs : List X) → Each (New []) xs
  unfolding Each
  new_all [] = tt
  new_all (x ∷ xs) = (tt, new_all xs)

  pub none-repeated-distinct : (position : ℕ) (xs : List X) → repeated front back [] position xs ≡ None → Distinct front back xs
  unfolding Distinct
  none-repeated-distinct position xs e = (none-repeated_new [] position xs e).1

  pub distinct-none-repeated : (position : ℕ) (xs : List X) → Distinct front back xs → repeated front back [] position xs ≡ None
  unfolding Distinct
  distinct-none-repeated position xs h = new_none-repeated [] position xs (new_all xs) h

-- members made from others by a function h
module _ {X Y : Type 0} (h : X → Y) (front back : Y → ℕ) where
  among-map : (x : X) (xs : List X) → among front back (h x) (map h xs) ≡ among (λ x. front (h x)) (λ x. back (h x)) x xs
  unfolding among
  among-map x [] = refl
  among-map x (y ∷ ys) = rw (among-map x ys)

  repeated-map_seen : (seen : List X) (position : ℕ) (xs : List X) → repeated front back (map h seen) position (map h xs) ≡ repeated (λ x. front (h x)) (λ x. back (h x)) seen position xs
  unfolding repeated
  repeated-map_seen seen position [] = refl
  repeated-map_seen seen position (x ∷ xs) = rw (among-map x seen, ← map_push h seen x, repeated-map_seen (seen ++ x ∷ []) (position + 1) xs)

  pub repeated-map : (position : ℕ) (xs : List X) → repeated front back [] position (map h xs) ≡ repeated (λ x. front (h x)) (λ x. back (h x)) [] position xs
  repeated-map position xs = repeated-map_seen [] position xs
