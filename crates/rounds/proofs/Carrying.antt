-- Rounds over members, carried over to columns of numbers. Assumes nothing.
use Rattle.std.proofs.Common.{◌≡◌, ℕ, ◌^◌, ◌<◌, ◌≤◌, Bool, true, false, List, [], ◌∷◌, ◌++◌, map, length, get_or, take, drop, MatchBool, sym, refl, ap, ◌∙◌, subst, arith}
use lib.Bits.{bit_xor}
use Rattle.std.specs.List.{zip, range_with_len, AllByRecursion as All}
use Rattle.std.proofs.lemmas.List.FromFn.{length-map-range_with_len, get_or-map-range_with_len}
use Rattle.std.proofs.ByRecursion.{All-get_or, All-from_get_or, All-map, All-weaker}
use Rattle.std.proofs.lemmas.List.{get_or_append_left, length-map, length-take, take_at, take-append-drop}
use Rattle.std.proofs.lemmas.Slice.Zip.{firsts-zip, seconds-zip, get_or-zip, length-zip}
use Rattle.rule.specs.Round.{of_class, displacement, result}
use Rattle.rule.specs.Places.{first, first_place, second, place, shared_pairs_of}
use Rattle.displace.specs.Columns.{class_of, moved_of, displacements, Below, ColumnsFit}
use Rattle.rounds.specs.Halves.{front_of, back_of, firsts, first_places, seconds, places_of, pairs_of, moved_by, shared_rows}
use Rattle.rule.proofs.Columns.{displacement-equal, shared-map}
use Rattle.rule.proofs.Rounds.{first_place_lt}

-- ---- two columns have the displacements of their members
module _ {X : Type 0} (f g : X → ℕ) (r : ℕ) where
  same_class : (xs : List X) (c : ℕ) → of_class class_of moved_of c (zip (map f xs) (map g xs)) ≡ of_class f g c xs
  unfolding of_class
  same_class [] c = refl
  same_class (x ∷ xs) c = rw (same_class xs c)

  pub same-displacements : (xs : List X) → displacements r (map f xs) (map g xs) ≡ map (displacement f g r xs) (range_with_len 0 (2 ^ r))
  unfolding displacements
  same-displacements xs =
      ap (λ (h : ℕ → ℕ). map h (range_with_len 0 (2 ^ r)))
      (λ i v. displacement-equal class_of moved_of f g (zip (map f xs) (map g xs)) xs (same_class xs) r v i)

-- ---- the results of a round
moved_same : {X : Type 0} (f g : X → ℕ) (h : ℕ → ℕ) (n : ℕ) (ds : List ℕ) → ((v : ℕ) → v < n → get_or ds v 0 ≡ h v) → (xs : List X) → All (λ x. f x < n) xs
    → moved_by ds (map f xs) (map g xs) ≡ map (λ x. bit_xor (g x) (h (f x))) xs
unfolding moved_by
moved_same f g h n ds e [] all = refl
moved_same f g h n ds e (x ∷ xs) all = rw (e (f x) all.0, moved_same f g h n ds e xs all.1)

-- the members xs as the two columns class and moved, and a list that begins with their displacements
results_are : {X : Type 0} (f g : X → ℕ) (r : ℕ) (xs : List X) (list class moved : List ℕ) → map f xs ≡ class → map g xs ≡ moved
    → take (2 ^ r) list ≡ map (displacement f g r xs) (range_with_len 0 (2 ^ r)) → All (λ x. f x < 2 ^ r) xs → moved_by list class moved ≡ map (result f g r xs) xs
unfolding result
results_are f g r xs list class moved ec em el all =
    let D = displacement f g r xs in
    let ds = map D (range_with_len 0 (2 ^ r)) in
    let long = length-map-range_with_len D 0 (2 ^ r) in
    let whole : list ≡ ds ++ drop (2 ^ r) list = sym (take-append-drop (2 ^ r) list) ∙ ap (λ zs. zs ++ drop (2 ^ r) list) el in
    rw (← ec, ← em)
    (moved_same f g D (2 ^ r) list
    (λ v h.
    ap (λ zs. get_or zs v 0) whole
    ∙ get_or_append_left ds (drop (2 ^ r) list) 0 v (omega arith)
    ∙ get_or-map-range_with_len D 0 (2 ^ r) v v 0 h (omega arith))
    xs all)

pub takes_firsts : (r : ℕ) (fronts backs list rest : List ℕ) → list ≡ firsts r fronts backs ++ rest → take (2 ^ r) list ≡ firsts r fronts backs
unfolding firsts
takes_firsts r fronts backs list rest e = ap (take (2 ^ r)) e ∙ take_at (firsts r fronts backs) rest (2 ^ r) (length-map-range_with_len _ 0 (2 ^ r))

pub takes_seconds : (r : ℕ) (fronts backs list rest : List ℕ) → list ≡ seconds r fronts backs ++ rest → take (2 ^ r) list ≡ seconds r fronts backs
unfolding seconds
takes_seconds r fronts backs list rest e = ap (take (2 ^ r)) e ∙ take_at (seconds r fronts backs) rest (2 ^ r) (length-map-range_with_len _ 0 (2 ^ r))

-- ---- both rounds
pub firsts-long : (r : ℕ) (fronts backs list : List ℕ) → take (2 ^ r) list ≡ firsts r fronts backs → 2 ^ r ≤ length list
unfolding firsts
firsts-long r fronts backs list e =
    omega (arith, length-take (2 ^ r) list, ap length e, length-map-range_with_len (first front_of back_of r (zip fronts backs)) 0 (2 ^ r))

pub seconds-long : (r : ℕ) (fronts backs list : List ℕ) → take (2 ^ r) list ≡ seconds r fronts backs → 2 ^ r ≤ length list
unfolding seconds
seconds-long r fronts backs list e =
    omega (arith, length-take (2 ^ r) list, ap length e, length-map-range_with_len (second front_of back_of r (zip fronts backs)) 0 (2 ^ r))

pub firsts_are : (r : ℕ) (fronts backs : List ℕ) → displacements r fronts backs ≡ firsts r fronts backs
unfolding displacements firsts first
firsts_are r fronts backs = refl

module _ (r : ℕ) (fronts backs : List ℕ) (equal : length backs ≡ length fronts) where
  fronts_are : map front_of (zip fronts backs) ≡ fronts
  fronts_are = firsts-zip fronts backs equal

  backs_are : map back_of (zip fronts backs) ≡ backs
  backs_are = seconds-zip fronts backs equal

  all_fronts : Below (2 ^ r) fronts → All (λ (x : ℕ × ℕ). front_of x < 2 ^ r) (zip fronts backs)
  all_fronts below =
      let long = length-zip fronts backs in
      All-from_get_or (λ (x : ℕ × ℕ). front_of x < 2 ^ r) (zip fronts backs) (0, 0)
      (λ i h. rw (get_or-zip fronts backs i (0, 0) (omega arith) (omega arith)) (below i (omega arith)))

  all_places : Below (2 ^ r) backs → All (λ (x : ℕ × ℕ). first_place front_of back_of r (zip fronts backs) x < 2 ^ r) (zip fronts backs)
  all_places below =
      let long = length-zip fronts backs in
      let xs = zip fronts backs in
      All-weaker (λ (x : ℕ × ℕ). back_of x < 2 ^ r) (λ (x : ℕ × ℕ). first_place front_of back_of r xs x < 2 ^ r)
      (λ x h. first_place_lt front_of back_of r xs x h)
      xs
      (All-from_get_or (λ (x : ℕ × ℕ). back_of x < 2 ^ r) xs (0, 0)
      (λ i h. rw (get_or-zip fronts backs i (0, 0) (omega arith) (omega arith)) (below i (omega arith))))

  pub length-first_places : length (first_places r fronts backs) ≡ length fronts
  unfolding first_places
  length-first_places = let long = length-zip fronts backs in length-map (zip fronts backs) (first_place front_of back_of r (zip fronts backs)) ∙ omega arith

  pub first_places-within : Below (2 ^ r) backs → Below (2 ^ r) (first_places r fronts backs)
  unfolding first_places
  first_places-within below i h =
      All-get_or (λ n. n < 2 ^ r) (map (first_place front_of back_of r (zip fronts backs)) (zip fronts backs)) i 0 h
      (All-map (λ n. n < 2 ^ r) (first_place front_of back_of r (zip fronts backs)) (zip fronts backs) (all_places below))

  pub first_places_are : (list : List ℕ) → Below (2 ^ r) fronts → take (2 ^ r) list ≡ firsts r fronts backs → moved_by list fronts backs ≡ first_places r fronts backs
  unfolding firsts first first_places first_place
  first_places_are list below e = results_are front_of back_of r (zip fronts backs) list fronts backs fronts_are backs_are e (all_fronts below)

  pub seconds_are : displacements r (first_places r fronts backs) fronts ≡ seconds r fronts backs
  unfolding first_places seconds second
  seconds_are =
      ap (displacements r (first_places r fronts backs)) (sym fronts_are)
      ∙ same-displacements (first_place front_of back_of r (zip fronts backs)) front_of r (zip fronts backs)

  pub pairs_are : shared_rows (first_places r fronts backs) ≡ pairs_of r fronts backs
  unfolding first_places pairs_of shared_pairs_of shared_rows
  pairs_are = shared-map (first_place front_of back_of r (zip fronts backs)) (λ (x : ℕ). x) (zip fronts backs)

  pub places_are : (list : List ℕ) → Below (2 ^ r) backs → take (2 ^ r) list ≡ seconds r fronts backs → moved_by list (first_places r fronts backs) fronts ≡ places_of r fronts backs
  unfolding first_places seconds second places_of place
  places_are list below e =
      results_are (first_place front_of back_of r (zip fronts backs)) front_of r (zip fronts backs) list (first_places r fronts backs) fronts refl fronts_are e (all_places below)

-- ---- the first places, as the first move leaves them
pub first_placed : (r : ℕ) (fronts backs first copy places : List ℕ) → ColumnsFit r fronts backs → take (2 ^ r) first ≡ firsts r fronts backs
    → copy ≡ fronts → places ≡ moved_by first copy backs → places ≡ first_places r fronts backs
first_placed r fronts backs first copy places fit begins same moved =
    moved ∙ ap (λ (xs : List ℕ). moved_by first xs backs) same ∙ first_places_are r fronts backs fit.equal first fit.class_fits begins

-- they fit as classes, with the front halves as the numbers that are moved
pub places_fit : (r : ℕ) (fronts backs places : List ℕ) → ColumnsFit r fronts backs → places ≡ first_places r fronts backs → ColumnsFit r places fronts
places_fit r fronts backs places fit here =
    let long : length places ≡ length fronts = ap length here ∙ length-first_places r fronts backs fit.equal in
    record {
      width = fit.width;
      equal = sym long;
      few = omega (arith, fit.few);
      class_fits = subst (λ (xs : List ℕ). Below (2 ^ r) xs) (sym here) (first_places-within r fronts backs fit.equal fit.moved_fits);
      moved_fits = fit.class_fits;
    }

-- ---- a round that can be made is made
pub sure : (b : Bool) (P : Type 0) → MatchBool b P (P → ⊥) → P → b ≡ true
sure true P h p = refl
sure false P h p = absurd (h p)
