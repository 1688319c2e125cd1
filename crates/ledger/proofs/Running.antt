-- The ledger law of a run of calls. Assumes nothing.
use Rattle.std.proofs.Common.{◌≡◌, ℕ, zero, suc, ◌+◌, ◌^◌, Bool, true, false, cond, ◌&&◌, leb, List, [], ◌∷◌, ◌++◌, length, take, Some, None, Err, Option, Result, is_ok, sym, refl, ap, ◌∙◌, subst, arith}
use Rattle.std.specs.List.{slice_get, zip}
use Rattle.std.proofs.lemmas.List.{length-map, take_all}
use Rattle.std.proofs.lemmas.List.Sums.{sum_by-cons}
use Rattle.std.proofs.lemmas.Bool.{cond_both}
use Rattle.fault.specs.declared.Fault.{Fault}
use Rattle.fault.specs.declared.Fault.TheVariants as fault
use Rattle.fault.specs.declared.Half.TheVariants.{Front, Back}
use Rattle.rule.specs.Places.{Distinct}
use Rattle.slots.specs.declared.Slot.{Slot}
use Rattle.build.specs.declared.Member.{Member}
use Rattle.build.specs.Built.{half}
use Rattle.ledger.specs.declared.Call.{Call}
use Rattle.ledger.specs.declared.Call.TheVariants.{Lookup, Replace, Remove, Insert}
use Rattle.ledger.specs.declared.Answer.{Answer}
use Rattle.ledger.specs.Run.{answer_to, answers_to, slots_after_call, slots_after_calls}
use Rattle.ledger.specs.Ledger.{entry_in, with_entry, fed, asked, if_fits, remove_asked, ledger_after, is_insert, is_remove, inserts, removes}
use Rattle.ledger.specs.Law.{Sound, Matches, LedgerLaw, Kept}
use Rattle.ledger.proofs.Entries.{without-length}
use Rattle.ledger.proofs.Mirror.{Mirrors}
use Rattle.ledger.proofs.Stepping.{step}
use Rattle.ledger.proofs.Matching.{matches_from, mirrors_from}

module _ {C V : Type 0} (front_of back_of : C → ℕ) (r : ℕ) (first second : List ℕ) where
  -- a code with a half that is too large is refused
  if_fits_lem : (code : C) (rest : Result (Answer V) Fault) (P : Result (Answer V) Fault → Type 0) → ((f : Fault) → P (Err f)) → P rest → P (if_fits front_of back_of r code rest)
  if_fits_lem code rest P refused fits =
      cond_both (leb (2 ^ r) (front_of code)) (Err (fault.LargeHalf Front 0)) (cond (leb (2 ^ r) (back_of code)) (Err (fault.LargeHalf Back 0)) rest) P
      (λ _. refused _)
      (λ _. cond_both (leb (2 ^ r) (back_of code)) (Err (fault.LargeHalf Back 0)) rest P (λ _. refused _) (λ _. fits))

  -- a code that is taken out was there
  abbrev Left : List (Member C V) → C → Result (Answer V) Fault → Type 0
  Left ledger code answer = length (fed front_of back_of (Remove code) (is_ok answer) ledger) + cond (is_ok answer) 1 0 ≡ length ledger

  removed_length : (ledger : List (Member C V)) (code : C) → Distinct (half front_of) (half back_of) ledger → (o : Option V) → entry_in front_of back_of ledger code ≡ o
      → (answer : Result (Answer V) Fault) → answer ≡ if_fits front_of back_of r code (remove_asked front_of back_of first second code o) → Left ledger code answer
  removed_length ledger code distinct None is answer e = subst (Left ledger code) (sym e) (if_fits_lem code _ (Left ledger code) (λ f. omega arith) (omega arith))
  removed_length ledger code distinct (Some entry) is answer e =
      subst (Left ledger code) (sym e) (if_fits_lem code _ (Left ledger code) (λ f. omega arith) (without-length front_of back_of code entry ledger distinct is))

  -- how a call changes the number of codes in the ledger
  fed-length : (ledger : List (Member C V)) (call : Call C V) (answer : Result (Answer V) Fault) → Distinct (half front_of) (half back_of) ledger → answer ≡ asked front_of back_of r first second ledger call
      → length (fed front_of back_of call (is_ok answer) ledger) + cond (is_remove call && is_ok answer) 1 0 ≡ length ledger + cond (is_insert call && is_ok answer) 1 0
  fed-length ledger (Lookup code) answer distinct e = by (is_ok answer)
    where
      by : (b : Bool) → length (fed front_of back_of (Lookup code) b ledger) + 0 ≡ length ledger + 0
      by true = refl
      by false = refl
  fed-length ledger (Replace code entry) answer distinct e = by (is_ok answer)
    where
      by : (b : Bool) → length (fed front_of back_of (Replace code entry) b ledger) + 0 ≡ length ledger + 0
      by true = omega (arith, length-map ledger (with_entry front_of back_of code entry))
      by false = refl
  fed-length ledger (Remove code) answer distinct e =
      omega (arith, removed_length ledger code distinct (entry_in front_of back_of ledger code) refl answer e)
  fed-length ledger (Insert code entry) answer distinct e = by (is_ok answer)
    where
      by : (b : Bool) → length (fed front_of back_of (Insert code entry) b ledger) + 0 ≡ length ledger + cond b 1 0
      by true = omega arith
      by false = refl

-- the counts of accepted calls, call by call
module _ {C V : Type 0} (call : Call C V) (calls : List (Call C V)) (answer : Result (Answer V) Fault) (answers : List (Result (Answer V) Fault)) where
  inserts-more : inserts (call ∷ calls) (answer ∷ answers) ≡ cond (is_insert call && is_ok answer) 1 0 + inserts calls answers
  unfolding inserts
  inserts-more = sum_by-cons _ (call, answer) (zip calls answers)

  removes-more : removes (call ∷ calls) (answer ∷ answers) ≡ cond (is_remove call && is_ok answer) 1 0 + removes calls answers
  unfolding removes
  removes-more = sum_by-cons _ (call, answer) (zip calls answers)

module _ {C V : Type 0} (front_of back_of : C → ℕ) (law : (x y : C) → front_of x ≡ front_of y → back_of x ≡ back_of y → x ≡ y) (r : ℕ) (first second : List ℕ) (rest : List (Result (Answer V) Fault)) where
  mirrors_at : (slots : List (Slot C V)) (ledger : List (Member C V)) → Mirrors front_of back_of r first second slots ledger → (calls : List (Call C V)) (k : ℕ)
      → Mirrors front_of back_of r first second (slots_after_calls front_of back_of r first second slots (take k calls)) (ledger_after front_of back_of ledger (take k calls) (answers_to front_of back_of r first second slots calls ++ rest))
  unfolding slots_after_calls ledger_after answers_to
  mirrors_at slots ledger mirrors [] zero = mirrors
  mirrors_at slots ledger mirrors [] (suc k) = mirrors
  mirrors_at slots ledger mirrors (call ∷ calls) zero = mirrors
  mirrors_at slots ledger mirrors (call ∷ calls) (suc k) = mirrors_at (slots_after_call front_of back_of r first second slots call) (fed front_of back_of call (is_ok (answer_to front_of back_of r first second slots call)) ledger) (step law mirrors call).1 calls k

  answered-at : (slots : List (Slot C V)) (ledger : List (Member C V)) → Mirrors front_of back_of r first second slots ledger → (calls : List (Call C V)) (k : ℕ) (call : Call C V) → slice_get calls k ≡ Some call
      → slice_get (answers_to front_of back_of r first second slots calls ++ rest) k
      ≡ Some (asked front_of back_of r first second (ledger_after front_of back_of ledger (take k calls) (answers_to front_of back_of r first second slots calls ++ rest)) call)
  unfolding ledger_after answers_to
  answered-at slots ledger mirrors [] k call is = cc
  answered-at slots ledger mirrors (c ∷ calls) zero call is =
      let same : c ≡ call = cc in
      ap Some ((step law mirrors c).0 ∙ ap (asked front_of back_of r first second ledger) same)
  answered-at slots ledger mirrors (c ∷ calls) (suc k) call is = answered-at (slots_after_call front_of back_of r first second slots c) (fed front_of back_of c (is_ok (answer_to front_of back_of r first second slots c)) ledger) (step law mirrors c).1 calls k call is

  balanced : (slots : List (Slot C V)) (ledger : List (Member C V)) → Mirrors front_of back_of r first second slots ledger → (calls : List (Call C V))
      → length (ledger_after front_of back_of ledger calls (answers_to front_of back_of r first second slots calls ++ rest)) + removes calls (answers_to front_of back_of r first second slots calls ++ rest)
      ≡ length ledger + inserts calls (answers_to front_of back_of r first second slots calls ++ rest)
  unfolding ledger_after answers_to inserts removes
  balanced slots ledger mirrors [] = refl
  balanced slots ledger mirrors (call ∷ calls) =
      let answer = answer_to front_of back_of r first second slots call in
      let answers = answers_to front_of back_of r first second (slots_after_call front_of back_of r first second slots call) calls ++ rest in
      let stepped = step law mirrors call in
      let one = fed-length front_of back_of r first second ledger call answer mirrors.distinct stepped.0 in
      let more = balanced (slots_after_call front_of back_of r first second slots call) (fed front_of back_of call (is_ok answer) ledger) stepped.1 calls in
      let in_all = inserts-more call calls answer answers in
      let out_all = removes-more call calls answer answers in
      omega arith

  -- the law of a run from slots that mirror a ledger
  pub run_law : (slots : List (Slot C V)) (ledger : List (Member C V)) → Mirrors front_of back_of r first second slots ledger → (calls : List (Call C V)) (answers : List (Result (Answer V) Fault)) → answers ≡ answers_to front_of back_of r first second slots calls ++ rest
      → LedgerLaw front_of back_of r first second slots ledger calls answers
  run_law slots ledger mirrors calls answers e =
      subst (LedgerLaw front_of back_of r first second slots ledger calls) (sym e)
      (record {
        matches = λ k _. matches_from law (mirrors_at slots ledger mirrors calls k);
        sound = λ k _. (mirrors_at slots ledger mirrors calls k).sound;
        answered = answered-at slots ledger mirrors calls;
        balance = ap (λ (cs : List (Call C V)). length (ledger_after front_of back_of ledger cs (answers_to front_of back_of r first second slots calls ++ rest)) + removes calls (answers_to front_of back_of r first second slots calls ++ rest)) (take_all (length calls) calls (omega arith)) ∙ balanced slots ledger mirrors calls;
      })

module _ {C V : Type 0} {front_of back_of : C → ℕ} (law : (x y : C) → front_of x ≡ front_of y → back_of x ≡ back_of y → x ≡ y) {r : ℕ} {first second : List ℕ} {slots : List (Slot C V)}
    {calls : List (Call C V)} (rest : List (Result (Answer V) Fault)) {answers : List (Result (Answer V) Fault)} {new_slots : List (Slot C V)}
    (es : new_slots ≡ slots_after_calls front_of back_of r first second slots calls) (ea : answers ≡ answers_to front_of back_of r first second slots calls ++ rest) (ledger : List (Member C V)) where
  -- a run from slots that mirror a ledger keeps the law
  pub kept_by : Mirrors front_of back_of r first second slots ledger → Kept front_of back_of r first second slots ledger calls answers new_slots
  kept_by mirrors =
      let all = take_all (length calls) calls (omega arith) in
      let whole = run_law front_of back_of law r first second rest slots ledger mirrors calls answers ea in
      let slots_are : slots_after_calls front_of back_of r first second slots (take (length calls) calls) ≡ new_slots = ap (slots_after_calls front_of back_of r first second slots) all ∙ sym es in
      record {
        law = whole;
        matches_after =
            subst (λ (cs : List (Call C V)). Matches front_of back_of r first second new_slots (ledger_after front_of back_of ledger cs answers)) all
            (subst (λ (s : List (Slot C V)). Matches front_of back_of r first second s (ledger_after front_of back_of ledger (take (length calls) calls) answers)) slots_are (whole.matches (length calls) (omega arith)));
        sound_after = subst (Sound front_of back_of r first second) slots_are (whole.sound (length calls) (omega arith));
      }

  -- and so does a run on an index that matches it, and that calls may go on from
  pub run_keeps : Sound front_of back_of r first second slots → Matches front_of back_of r first second slots ledger → Kept front_of back_of r first second slots ledger calls answers new_slots
  run_keeps sound matches = kept_by (mirrors_from law sound matches)
