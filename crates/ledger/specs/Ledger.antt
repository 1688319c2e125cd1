-- The ledger: a list of codes with their entries, kept beside an index from the calls alone. Assumes nothing.
use Rattle.std.specs.Prelude.{ℕ, ◌^◌, Bool, true, false, cond, not, ◌&&◌, List, ◌∷◌, map, Some, None, Ok, Err, Option, option_map, Result, is_ok, ◌==◌, nat_le, fold, filter, count_by}
use Rattle.std.specs.List.{list_any, zip, find}
use Rattle.fault.specs.declared.Fault.{Fault}
use Rattle.fault.specs.declared.Fault.TheVariants as fault
use Rattle.fault.specs.declared.Half.TheVariants.{Front, Back}
use Rattle.lists.specs.Place.{place_within}
use Rattle.lists.specs.Size.{refuse}
use Rattle.build.specs.declared.Member.{Member}
use Rattle.ledger.specs.declared.Call.{Call}
use Rattle.ledger.specs.declared.Call.TheVariants.{Lookup, Replace, Remove, Insert}
use Rattle.ledger.specs.declared.Answer.{Answer}
use Rattle.ledger.specs.declared.Answer.TheVariants.{LookedUp, Replaced, Removed, Inserted}

module _ {C V : Type 0} where
  -- whether a call is an insert, and whether it is a remove
  abbrev pub is_insert : Call C V → Bool
  is_insert (Lookup code) = false
  is_insert (Replace code entry) = false
  is_insert (Remove code) = false
  is_insert (Insert code entry) = true

  abbrev pub is_remove : Call C V → Bool
  is_remove (Lookup code) = false
  is_remove (Replace code entry) = false
  is_remove (Remove code) = true
  is_remove (Insert code entry) = false

  -- the accepted inserts, and the accepted removes, among calls with these answers
  unfoldable pub inserts : List (Call C V) → List (Result (Answer V) Fault) → ℕ
  inserts calls answers = count_by (λ (p : Call C V × Result (Answer V) Fault). is_insert p.0 && is_ok p.1) (zip calls answers)

  unfoldable pub removes : List (Call C V) → List (Result (Answer V) Fault) → ℕ
  removes calls answers = count_by (λ (p : Call C V × Result (Answer V) Fault). is_remove p.0 && is_ok p.1) (zip calls answers)

module _ {C : Type 0} (front_of back_of : C → ℕ) where
  -- codes are the same exactly if their halves are
  abbrev pub same_code : C → C → Bool
  same_code x y = front_of x == front_of y && back_of x == back_of y

  -- the place of a code in an index with these lists
  abbrev pub place_for : List ℕ → List ℕ → C → ℕ
  place_for first second code = place_within first second (front_of code) (back_of code)

module _ {C V : Type 0} (front_of back_of : C → ℕ) where
  -- the entry of a code, if the ledger has the code
  unfoldable pub entry_in : List (Member C V) → C → Option V
  entry_in ledger code = option_map (λ (m : Member C V). m.entry) (find (λ (m : Member C V). same_code front_of back_of m.code code) ledger)

  -- the ledger with another entry for a code
  abbrev pub with_entry : C → V → Member C V → Member C V
  with_entry code entry m = cond (same_code front_of back_of m.code code) (record { code = m.code; entry = entry }) m

  -- the ledger without a code
  unfoldable pub without : C → List (Member C V) → List (Member C V)
  without code ledger = filter (λ (m : Member C V). not (same_code front_of back_of m.code code)) ledger

  -- the ledger after a call, which is fed the call's arguments and whether it was accepted
  abbrev pub fed : Call C V → Bool → List (Member C V) → List (Member C V)
  fed call false ledger = ledger
  fed (Lookup code) true ledger = ledger
  fed (Replace code entry) true ledger = map (with_entry code entry) ledger
  fed (Remove code) true ledger = without code ledger
  fed (Insert code entry) true ledger = record { code = code; entry = entry } ∷ ledger

  -- the ledger after calls with these answers
  unfoldable pub ledger_after : List (Member C V) → List (Call C V) → List (Result (Answer V) Fault) → List (Member C V)
  ledger_after ledger calls answers = fold (λ (now : List (Member C V)) (p : Call C V × Result (Answer V) Fault). fed p.0 (is_ok p.1) now) ledger (zip calls answers)

module _ {C V : Type 0} (front_of back_of : C → ℕ) (first second : List ℕ) where
  -- whether some code of the ledger has this place
  unfoldable pub taken : List (Member C V) → ℕ → Bool
  taken ledger place = list_any (λ (m : Member C V). place_for front_of back_of first second m.code == place) ledger

  -- what each call with a code that fits is to answer, given the entry that the ledger has for the code
  abbrev pub lookup_asked : C → Option V → Result (Answer V) Fault
  lookup_asked code (Some entry) = Ok (LookedUp (Some (place_for front_of back_of first second code, entry)))
  lookup_asked code None = Ok (LookedUp None)

  abbrev pub replace_asked : C → Option V → Result (Answer V) Fault
  replace_asked code (Some entry) = Ok (Replaced entry)
  replace_asked code None = Err (fault.NotFound (place_for front_of back_of first second code))

  abbrev pub remove_asked : C → Option V → Result (Answer V) Fault
  remove_asked code (Some entry) = Ok (Removed entry)
  remove_asked code None = Err (fault.NotFound (place_for front_of back_of first second code))

  -- an insert is refused if its code is there, and where another code has its place
  abbrev pub insert_asked : C → Bool → Option V → Result (Answer V) Fault
  insert_asked code full (Some entry) = Err (fault.Found (place_for front_of back_of first second code))
  insert_asked code full None = refuse full (fault.PlaceTaken (place_for front_of back_of first second code)) (Ok (Inserted (place_for front_of back_of first second code)))

-- refused if a half of the code is 2^r or more, else the rest
abbrev pub if_fits : {C X : Type 0} (front_of back_of : C → ℕ) (r : ℕ) → C → Result X Fault → Result X Fault
if_fits front_of back_of r code rest =
    refuse (nat_le (2 ^ r) (front_of code)) (fault.LargeHalf Front 0) (
    refuse (nat_le (2 ^ r) (back_of code)) (fault.LargeHalf Back 0) rest)

module _ {C V : Type 0} (front_of back_of : C → ℕ) (r : ℕ) (first second : List ℕ) where
  -- the answer that the ledger asks for
  abbrev pub asked : List (Member C V) → Call C V → Result (Answer V) Fault
  asked ledger (Lookup code) = if_fits front_of back_of r code (lookup_asked front_of back_of first second code (entry_in front_of back_of ledger code))
  asked ledger (Replace code entry) = if_fits front_of back_of r code (replace_asked front_of back_of first second code (entry_in front_of back_of ledger code))
  asked ledger (Remove code) = if_fits front_of back_of r code (remove_asked front_of back_of first second code (entry_in front_of back_of ledger code))
  asked ledger (Insert code entry) = if_fits front_of back_of r code (insert_asked front_of back_of first second code (taken front_of back_of first second ledger (place_for front_of back_of first second code)) (entry_in front_of back_of ledger code))
