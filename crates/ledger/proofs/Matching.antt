-- Slots mirror a ledger exactly if the lookups match it. Assumes nothing.
use Rattle.std.proofs.Common.{◌≡◌, ℕ, ◌^◌, ◌<◌, Bool, true, false, cond, leb, List, [], ◌∷◌, Some, None, Ok, Err, Option, option_map, Result, sym, refl, ap, ◌∙◌, arith}
use Rattle.std.specs.List.{slice_get}
use Rattle.std.proofs.lemmas.Option.{cond_some, some_pair_parts}
use Rattle.std.proofs.lemmas.Bool.Decides.{nat_tests}
use Rattle.std.proofs.lemmas.Bool.{cond-false, and_parts, lt-leb}
use Rattle.fault.specs.declared.Fault.{Fault}
use Rattle.fault.specs.declared.Fault.TheVariants as fault
use Rattle.fault.specs.declared.Half.TheVariants.{Front, Back}
use Rattle.lists.specs.Size.{refuse, and_then}
use Rattle.rule.specs.Places.{Each, Apart, Fit, Distinct}
use Rattle.rule.proofs.Each.{each_with}
use Rattle.slots.specs.declared.Slot.{Slot}
use Rattle.slots.specs.Calls.{holds_code, look_up, look_up_at}
use Rattle.build.specs.declared.Member.{Member}
use Rattle.build.specs.Built.{half}
use Rattle.ledger.specs.declared.Call.TheVariants.{Lookup}
use Rattle.ledger.specs.declared.Answer.{Answer}
use Rattle.ledger.specs.declared.Answer.TheVariants.{LookedUp}
use Rattle.ledger.specs.Run.{told}
use Rattle.ledger.specs.Ledger.{same_code, place_for, entry_in, if_fits, lookup_asked}
use Rattle.ledger.specs.Law.{Sound, Matches, not_found}
use Rattle.ledger.proofs.Entries.{same_halves}
use Rattle.ledger.proofs.Placing.{slot_for_lem, by_slot}
use Rattle.ledger.proofs.Mirror.{hold, Mirrors}
use Rattle.ledger.proofs.Stepping.{ask_fits, each_both, each-found, each_held, step}

-- an answer tells the result of its lookup
looked_up_tells : {V : Type 0} (x y : Result (Option (ℕ × V)) Fault) → told LookedUp x ≡ told LookedUp y → x ≡ y
looked_up_tells (Ok x) (Ok y) e = cc
looked_up_tells (Ok x) (Err f) e = cc
looked_up_tells (Err f) (Ok y) e = cc
looked_up_tells (Err f) (Err k) e = cc

-- what a lookup answers for the entry that a slot holds, at a place
look_hold : {C V : Type 0} (front_of back_of : C → ℕ) (code : C) (p : ℕ) (o : Option (Slot C V)) → look_up_at front_of back_of code (p, o) ≡ Ok (option_map (λ (v : V). (p, v)) (hold front_of back_of o code))
look_hold front_of back_of code p None = refl
look_hold {C} {V} front_of back_of code p (Some slot) = by (holds_code front_of back_of code slot)
  where
    by : (b : Bool) → ◌≡◌ {A = Result (Option (ℕ × V)) Fault} (cond b (Ok (Some (p, slot.entry))) (Ok None)) (Ok (option_map (λ (v : V). (p, v)) (cond b (Some slot.entry) None)))
    by true = refl
    by false = refl

-- and it tells that entry
entry_tells : {V : Type 0} (p : ℕ) (o u : Option V) → ◌≡◌ {A = Result (Option (ℕ × V)) Fault} (Ok (option_map (λ (v : V). (p, v)) o)) (Ok (option_map (λ (v : V). (p, v)) u)) → o ≡ u
entry_tells p None None e = refl
entry_tells p None (Some w) e = cc
entry_tells p (Some v) None e = cc
entry_tells p (Some v) (Some w) e = ap Some (some_pair_parts p p v w cc).1

module _ {C V : Type 0} (front_of back_of : C → ℕ) where
  -- codes of the ledger fit
  entry_fits : (r : ℕ) (ledger : List (Member C V)) (code : C) (entry : V) → Fit (half front_of) (half back_of) r ledger → entry_in front_of back_of ledger code ≡ Some entry → (front_of code < 2 ^ r) × (back_of code < 2 ^ r)
  unfolding Fit Each entry_in
  entry_fits r [] code entry fit is = cc
  entry_fits r (m ∷ ledger) code entry fit is = grind (arith, nat_tests, fit.0, entry_fits r ledger code entry fit.1)

  -- what a slot that holds two codes tells of them
  held_same : (slot : Option (Slot C V)) (x y : C) (v w : V) → hold front_of back_of slot x ≡ Some v → hold front_of back_of slot y ≡ Some w → (front_of x ≡ front_of y) × (back_of x ≡ back_of y)
  held_same None x y v w hx hy = cc
  held_same (Some slot) x y v w hx hy =
      let a = same_halves front_of back_of slot.code x (holds_same slot x v hx) in
      let b = same_halves front_of back_of slot.code y (holds_same slot y w hy) in
      (sym a.0 ∙ b.0, sym a.1 ∙ b.1)
    where
      holds_same : (slot : Slot C V) (x : C) (v : V) → hold front_of back_of (Some slot) x ≡ Some v → same_code front_of back_of slot.code x ≡ true
      holds_same slot x v h = (and_parts slot.full _ (cond_some _ _ _ h).0).1

  module _ (r : ℕ) (first second : List ℕ) (slots : List (Slot C V)) where
    -- each code is alone in its place
    alone_by : (ledger : List (Member C V)) → Each (λ m. (entry : V) × (hold front_of back_of (slice_get slots (place_for front_of back_of first second m.code)) m.code ≡ Some entry)) ledger → Distinct (half front_of) (half back_of) ledger
        → Apart (λ x y. place_for front_of back_of first second x.code ≡ place_for front_of back_of first second y.code) ledger
    unfolding Distinct Apart Each
    alone_by [] held distinct = tt
    alone_by (m ∷ ledger) held distinct = (
      each_with (λ y both e. both.1 (held_same (slice_get slots (place_for front_of back_of first second m.code)) m.code y.code held.0.0 both.0.0 held.0.1 (ap (λ (p : ℕ). hold front_of back_of (slice_get slots p) y.code) e ∙ both.0.1))) ledger
          (each_both _ _ ledger held.1 distinct.0),
      alone_by ledger held.1 distinct.1,
    )

-- what a lookup of a code that is not there is to answer
looked_up-none : {C V : Type 0} (front_of back_of : C → ℕ) (r : ℕ) (code : C) → if_fits front_of back_of r code (Ok (LookedUp None)) ≡ told {V = V} LookedUp (not_found front_of back_of r code)
looked_up-none front_of back_of r code = refuse-told (leb (2 ^ r) (front_of code)) (leb (2 ^ r) (back_of code)) (fault.LargeHalf Front 0) (fault.LargeHalf Back 0)
  where
    refuse-told : {V : Type 0} (a b : Bool) (f g : Fault) → ◌≡◌ {A = Result (Answer V) Fault} (refuse a f (refuse b g (Ok (LookedUp None)))) (told LookedUp (refuse a f (refuse b g (Ok None))))
    refuse-told true b f g = refl
    refuse-told false true f g = refl
    refuse-told false false f g = refl

module _ {C V : Type 0} {front_of back_of : C → ℕ} (law : (x y : C) → front_of x ≡ front_of y → back_of x ≡ back_of y → x ≡ y) {r : ℕ} {first second : List ℕ} {slots : List (Slot C V)} {ledger : List (Member C V)} where
  pub matches_from : Mirrors front_of back_of r first second slots ledger → Matches front_of back_of r first second slots ledger
  matches_from mirrors =
      record {
        distinct = mirrors.distinct;
        found = λ code entry is.
            let fits = entry_fits front_of back_of r ledger code entry mirrors.fit is in
            looked_up_tells (look_up front_of back_of r code first second slots) (Ok (Some (place_for front_of back_of first second code, entry)))
            ((step law mirrors (Lookup code)).0
            ∙ ask_fits front_of back_of r code _ fits.0 fits.1
            ∙ ap (lookup_asked front_of back_of first second code) is);
        others = λ code none.
            looked_up_tells (look_up front_of back_of r code first second slots) (not_found front_of back_of r code)
            ((step law mirrors (Lookup code)).0
            ∙ ap (λ (o : Option V). if_fits front_of back_of r code (lookup_asked front_of back_of first second code o)) none
            ∙ looked_up-none front_of back_of r code);
        alone = alone_by front_of back_of r first second slots ledger (each_held mirrors) mirrors.distinct;
        number = mirrors.number;
      }

  module _ (sound : Sound front_of back_of r first second slots) (matches : Matches front_of back_of r first second slots ledger) where
    -- a code that is found fits
    found_fits : (code : C) (x : ℕ × V) → look_up front_of back_of r code first second slots ≡ Ok (Some x) → (front_of code < 2 ^ r) × (back_of code < 2 ^ r)
    found_fits code x =
        by_slot sound code (λ q. and_then q (look_up_at front_of back_of code) ≡ Ok (Some x) → (front_of code < 2 ^ r) × (back_of code < 2 ^ r))
        (λ f e. cc)
        (λ f b e. cc)
        (λ slot f b is e. (f, b))

    -- what a lookup of a code that fits answers is what its slot holds
    look_fits : (code : C) → front_of code < 2 ^ r → back_of code < 2 ^ r
        → look_up front_of back_of r code first second slots ≡ Ok (option_map (λ (v : V). (place_for front_of back_of first second code, v)) (hold front_of back_of (slice_get slots (place_for front_of back_of first second code)) code))
    look_fits code f b =
        ap (λ (q : Result (ℕ × Option (Slot C V)) Fault). and_then q (look_up_at front_of back_of code))
        (slot_for_lem sound code ∙ cond-false _ _ _ (lt-leb (2 ^ r) (front_of code) f) ∙ cond-false _ _ _ (lt-leb (2 ^ r) (back_of code) b))
        ∙ look_hold front_of back_of code (place_for front_of back_of first second code) (slice_get slots (place_for front_of back_of first second code))

    pub mirrors_from : Mirrors front_of back_of r first second slots ledger
    unfolding Fit
    mirrors_from =
        record {
          sound = sound;
          fit = each_with (λ m found. found_fits m.code _ (matches.found m.code found.0 found.1)) ledger (each-found front_of back_of ledger);
          distinct = matches.distinct;
          same = λ code f b.
              entry_tells (place_for front_of back_of first second code) _ _ (sym (look_fits code f b) ∙ looked code f b (entry_in front_of back_of ledger code) refl);
          number = matches.number;
        }
      where
        looked : (code : C) → front_of code < 2 ^ r → back_of code < 2 ^ r → (o : Option V) → entry_in front_of back_of ledger code ≡ o
            → look_up front_of back_of r code first second slots ≡ Ok (option_map (λ (v : V). (place_for front_of back_of first second code, v)) o)
        looked code f b None is = matches.others code is ∙ ask_fits front_of back_of r code (Ok None) f b
        looked code f b (Some entry) is = matches.found code entry is
