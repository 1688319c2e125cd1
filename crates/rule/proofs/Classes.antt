-- The classes in the order in which they are taken: each comes once, and together they have every member once. Assumes nothing.
use Rattle.std.proofs.Common.{◌≡◌, ℕ, zero, suc, ◌+◌, ◌<◌, ◌≤◌, Bool, true, false, cond, eqb, leb, List, [], ◌∷◌, length, sym, refl, ap, ◌∙◌, subst, ap₂, arith}
use Rattle.std.proofs.lemmas.Bool.Decides.{nat_tests}
use Rattle.std.proofs.lemmas.List.{nil_from_length}
use Rattle.std.proofs.lemmas.Bool.{eqb-true, eqb-false, leb-true, eq-eqb, ne_eqb}
use Rattle.rule.specs.Places.{Each, Apart, Distinct}
use Rattle.rule.specs.Round.{falling, keep, behind, of_class, order}
use Rattle.rule.proofs.Each.{each_all, each_with, apart_append}
use Rattle.rule.proofs.Sums.{total, total_each, total_add, total_same, total_append, total_keep, total_at}

-- ---- lists of classes

module _ (p : ℕ → Bool) where
  each_keep : (P : ℕ → Type 0) (cs : List ℕ) → Each P cs → Each P (keep p cs)
  unfolding keep Each
  each_keep P [] h = tt
  each_keep P (c ∷ cs) h = go (p c) (each_keep P cs h.1)
    where
      go : (b : Bool) → Each P (keep p cs) → Each P (cond b (c ∷ keep p cs) (keep p cs))
      go true l = (h.0, l)
      go false l = l

  -- what is kept passes the test
  pub keep_passes : (cs : List ℕ) → Each (λ c. p c ≡ true) (keep p cs)
  unfolding keep Each
  keep_passes [] = tt
  keep_passes (c ∷ cs) = go (p c) refl (keep_passes cs)
    where
      go : (b : Bool) → p c ≡ b → Each (λ c. p c ≡ true) (keep p cs) → Each (λ c. p c ≡ true) (cond b (c ∷ keep p cs) (keep p cs))
      go true e l = (e, l)
      go false e l = l

  apart_keep : (R : ℕ → ℕ → Type 0) (cs : List ℕ) → Apart R cs → Apart R (keep p cs)
  unfolding keep Apart
  apart_keep R [] h = tt
  apart_keep R (c ∷ cs) h = go (p c) (apart_keep R cs h.1)
    where
      go : (b : Bool) → Apart R (keep p cs) → Apart R (cond b (c ∷ keep p cs) (keep p cs))
      go true l = (each_keep (λ d. R c d → ⊥) cs h.0, l)
      go false l = l

falling-below : (m n : ℕ) → n ≤ m → Each (λ c. c < m) (falling n)
unfolding falling Each
falling-below m zero h = tt
falling-below m (suc n) h = (h, falling-below m n (omega arith))

falling_apart : (n : ℕ) → Apart (λ c d. c ≡ d) (falling n)
unfolding falling Apart
falling_apart zero = tt
falling_apart (suc n) = (each_with (λ c h e. omega arith) (falling n) (falling-below n n (omega arith)), falling_apart n)

-- b gives for each of the classes cs what stands behind it there
unfoldable pub Follows : (ℕ → List ℕ) → List ℕ → Type 0
Follows b [] = Unit {0}
Follows b (c ∷ cs) = (b c ≡ cs) × Follows b cs

follows_like : (b b' : ℕ → List ℕ) (cs : List ℕ) → Each (λ c. b' c ≡ b c) cs → Follows b cs → Follows b' cs
unfolding Follows Each
follows_like b b' [] e h = tt
follows_like b b' (c ∷ cs) e h = (e.0 ∙ h.0, follows_like b b' cs e.1 h.1)

behind_follows : (cs : List ℕ) → Apart (λ c d. c ≡ d) cs → Follows (λ c. behind c cs) cs
unfolding Follows Apart behind
behind_follows [] h = tt
behind_follows (c ∷ cs) h = (
  ap (λ (t : Bool). cond t cs (behind c cs)) (eq-eqb c c refl),
  follows_like (λ d. behind d cs) (λ d. cond (eqb c d) cs (behind d cs)) cs
      (each_with (λ d k. ap (λ (t : Bool). cond t cs (behind d cs)) (ne_eqb c d k)) cs h.0) (behind_follows cs h.1),
)

-- ---- the classes of a list of members

module _ {X : Type 0} (class moved : X → ℕ) where
  -- what holds of each member of class c holds of its moved numbers
  pub each-of_class : (P : ℕ → Type 0) (c : ℕ) (xs : List X) → Each (λ x. class x ≡ c → P (moved x)) xs → Each P (of_class class moved c xs)
  unfolding of_class Each
  each-of_class P c [] h = tt
  each-of_class P c (x ∷ xs) h = go (eqb (class x) c) refl (each-of_class P c xs h.1)
    where
      go : (b : Bool) → eqb (class x) c ≡ b → Each P (of_class class moved c xs) → Each P (cond b (moved x ∷ of_class class moved c xs) (of_class class moved c xs))
      go true e l = (h.0 (eqb-true (class x) c e), l)
      go false e l = l

  -- distinct members of one class have distinct moved numbers
  pub class_apart : (c : ℕ) (xs : List X) → Distinct class moved xs → Apart (λ m n. m ≡ n) (of_class class moved c xs)
  unfolding of_class Distinct Apart
  class_apart c [] h = tt
  class_apart c (x ∷ xs) h = go (eqb (class x) c) refl (class_apart c xs h.1)
    where
      go : (b : Bool) → eqb (class x) c ≡ b → Apart (λ m n. m ≡ n) (of_class class moved c xs)
          → Apart (λ m n. m ≡ n) (cond b (moved x ∷ of_class class moved c xs) (of_class class moved c xs))
      go true e l =
          (each-of_class (λ n. moved x ≡ n → ⊥) c xs (each_with (λ y k f g. k (eqb-true (class x) c e ∙ sym f, g)) xs h.0), l)
      go false e l = l

  each_in_class : (P : ℕ → Type 0) (c : ℕ) (xs : List X) → Each P (of_class class moved c xs) → Each (λ x. class x ≡ c → P (moved x)) xs
  unfolding of_class Each
  each_in_class P c [] h = tt
  each_in_class P c (x ∷ xs) h = let k = go (eqb (class x) c) refl h in (k.0, each_in_class P c xs k.1)
    where
      go : (b : Bool) → eqb (class x) c ≡ b → Each P (cond b (moved x ∷ of_class class moved c xs) (of_class class moved c xs))
          → (class x ≡ c → P (moved x)) × Each P (of_class class moved c xs)
      go true e l = ((λ _. l.0), l.1)
      go false e l = ((λ f. absurd (eqb-false (class x) c e f)), l)

  -- members are distinct if those of each class are
  pub distinct_classes : (xs : List X) → ((c : ℕ) → Apart (λ m n. m ≡ n) (of_class class moved c xs)) → Distinct class moved xs
  unfolding of_class Distinct Apart
  distinct_classes [] h = tt
  distinct_classes (x ∷ xs) h =
      let own = of_class class moved (class x) xs in
      let here = subst (λ (b : Bool). Apart (λ m n. m ≡ n) (cond b (moved x ∷ own) own)) (eq-eqb (class x) (class x) refl) (h (class x)) in (
        each_with (λ y k e. k (sym e.0) e.1) xs (each_in_class (λ n. moved x ≡ n → ⊥) (class x) xs here.0),
        distinct_classes xs (λ c. rest (of_class class moved c xs) (eqb (class x) c) (h c)),
      )
    where
      rest : (ms : List ℕ) (b : Bool) → Apart (λ m n. m ≡ n) (cond b (moved x ∷ ms) ms) → Apart (λ m n. m ≡ n) ms
      rest ms true l = l.1
      rest ms false l = l

  total_class_cons : (f : ℕ → ℕ) (c : ℕ) (x : X) (xs : List X)
      → total f (of_class class moved c (x ∷ xs)) ≡ cond (eqb (class x) c) (f (moved x)) 0 + total f (of_class class moved c xs)
  unfolding of_class total
  total_class_cons f c x xs = go (eqb (class x) c)
    where
      go : (b : Bool) → total f (cond b (moved x ∷ of_class class moved c xs) (of_class class moved c xs))
          ≡ cond b (f (moved x)) 0 + total f (of_class class moved c xs)
      go true = refl
      go false = omega arith

  -- a sum over one class
  pub total_of_class : (f : ℕ → ℕ) (c : ℕ) (xs : List X)
      → total f (of_class class moved c xs) ≡ total (λ x. cond (eqb (class x) c) (f (moved x)) 0) xs
  unfolding of_class total
  total_of_class f c [] = refl
  total_of_class f c (x ∷ xs) = total_class_cons f c x xs ∙ ap (λ (n : ℕ). cond (eqb (class x) c) (f (moved x)) 0 + n) (total_of_class f c xs)

  total_falling : (f : ℕ → ℕ → ℕ) (n : ℕ) (xs : List X) → Each (λ x. class x < n) xs
      → total (λ c. total (f c) (of_class class moved c xs)) (falling n) ≡ total (λ x. f (class x) (moved x)) xs
  unfolding of_class total Each
  total_falling f n [] h = omega (arith, total_same {X = ℕ} 0 (falling n))
  total_falling f n (x ∷ xs) h =
      let split = total_add (λ c. cond (eqb (class x) c) (f c (moved x)) 0) (λ c. total (f c) (of_class class moved c xs)) (falling n) in
      ap (λ (g : ℕ → ℕ). total g (falling n)) (λ i c. total_class_cons (f c) c x xs i)
      ∙ omega (arith, total_at (λ c. f c (moved x)) (class x) n h.0, total_falling f n xs h.1)

  -- a class is taken exactly if it has members, so others may count 0
  order_total : (g : ℕ → ℕ) (n : ℕ) (xs : List X) → ((c : ℕ) → length (of_class class moved c xs) ≡ 0 → g c ≡ 0)
      → total g (order class moved n xs) ≡ total g (falling n)
  unfolding order
  order_total g n xs none =
      let size : ℕ → ℕ = λ c. length (of_class class moved c xs) in
      let one : ℕ → Bool = λ c. eqb (size c) 1 in
      let many : ℕ → Bool = λ c. leb 2 (size c) in
      total_append g (keep one (falling n)) (keep many (falling n))
      ∙ ap₂ ◌+◌ (total_keep one g (falling n)) (total_keep many g (falling n))
      ∙ sym (total_add (λ c. cond (one c) (g c) 0) (λ c. cond (many c) (g c) 0) (falling n))
      ∙ total_each (λ c. cond (one c) (g c) 0 + cond (many c) (g c) 0) g (falling n) (each_all (λ c. both (size c) (g c) (none c)) (falling n))
    where
      both : (s a : ℕ) → (s ≡ 0 → a ≡ 0) → cond (eqb s 1) a 0 + cond (leb 2 s) a 0 ≡ a
      both zero a h = omega (arith, h refl)
      both (suc zero) a h = omega arith
      both (suc (suc s)) a h = grind (arith, nat_tests)

  -- a sum over the members, class by class
  pub total_classes : (f : ℕ → ℕ → ℕ) (n : ℕ) (xs : List X) → Each (λ x. class x < n) xs
      → total (λ c. total (f c) (of_class class moved c xs)) (order class moved n xs) ≡ total (λ x. f (class x) (moved x)) xs
  unfolding total
  total_classes f n xs h =
      order_total (λ c. total (f c) (of_class class moved c xs)) n xs (λ c e. ap (total (f c)) (nil_from_length (of_class class moved c xs) e))
      ∙ total_falling f n xs h

  -- no class is taken twice
  order_apart : (n : ℕ) (xs : List X) → Apart (λ c d. c ≡ d) (order class moved n xs)
  unfolding order
  order_apart n xs =
      let size : ℕ → ℕ = λ c. length (of_class class moved c xs) in
      let one : ℕ → Bool = λ c. eqb (size c) 1 in
      let many : ℕ → Bool = λ c. leb 2 (size c) in
      apart_append (λ c d. c ≡ d) (keep one (falling n)) (keep many (falling n))
      (apart_keep one (λ c d. c ≡ d) (falling n) (falling_apart n)) (apart_keep many (λ c d. c ≡ d) (falling n) (falling_apart n))
      (each_with (λ c h. each_with (λ d l e. omega (arith, ap size e, eqb-true (size c) 1 h, leb-true 2 (size d) l)) (keep many (falling n)) (keep_passes many (falling n)))
      (keep one (falling n)) (keep_passes one (falling n)))

  -- the classes behind one in the order are those taken before it
  pub order_follows : (n : ℕ) (xs : List X) → Follows (λ c. behind c (order class moved n xs)) (order class moved n xs)
  order_follows n xs = behind_follows (order class moved n xs) (order_apart n xs)
