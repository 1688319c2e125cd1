-- Entries of a chart: no two have one number, and the entry made from a number has it.
use Rattle.std.specs.Prelude.{◌≡◌, ℕ, ◌/◌, ◌%◌, ◌<◌, Bool, true, false, cond, List, [], ◌∷◌, Some, None, Decides, Option, ◌==◌, refl}
use Rattle.std.proofs.Common.{sym, ◌∙◌, arith}
use Rattle.std.proofs.lemmas.Bool.Decides.{Decides-eqb}
use Rattle.codes.specs.Makings.{MadeEntry}
use Rattle.codes.specs.Entries.{stroke_number, rods_number, strokes, all_rods, found, stroke_of, rods_of, entry_number, both, chart_entry_of}
use Rattle.codes.specs.declared.entries.ChartEntry.{ChartEntry}
use Rattle.codes.specs.declared.entries.Stroke.{Stroke}
use Rattle.codes.specs.declared.entries.Stroke.TheVariants.{Randing, Slewing, Waling, Pairing, Fitching}
use Rattle.codes.specs.declared.entries.Rods.{Rods}
use Rattle.codes.specs.declared.entries.Rods.TheVariants.{One, Two, Three, Four, Five, Six, Seven, Eight, Nine, Ten, Eleven, Twelve, Thirteen, Fourteen, Fifteen}

own_stroke : (s : Stroke) → stroke_of (stroke_number s) ≡ Some s
own_stroke Randing = refl
own_stroke Slewing = refl
own_stroke Waling = refl
own_stroke Pairing = refl
own_stroke Fitching = refl

own_rods : (r : Rods) → rods_of (rods_number r) ≡ Some r
own_rods One = refl
own_rods Two = refl
own_rods Three = refl
own_rods Four = refl
own_rods Five = refl
own_rods Six = refl
own_rods Seven = refl
own_rods Eight = refl
own_rods Nine = refl
own_rods Ten = refl
own_rods Eleven = refl
own_rods Twelve = refl
own_rods Thirteen = refl
own_rods Fourteen = refl
own_rods Fifteen = refl

rods_below : (r : Rods) → rods_number r < 16
rods_below r = grind arith

-- an entry is the one that its own number makes
split : (e : ChartEntry) (n : ℕ) → entry_number e ≡ n → (stroke_number e.stroke ≡ n / 16) × (rods_number e.rods ≡ n % 16)
split e n h = (omega (arith, rods_below e.rods), omega (arith, rods_below e.rods))

own_entry : (e : ChartEntry) (n : ℕ) → entry_number e ≡ n → chart_entry_of n ≡ Some e
own_entry e n h =
    rw (← (split e n h).0, ← (split e n h).1, own_stroke, own_rods)

pub same_entry : (x y : ChartEntry) → entry_number x ≡ entry_number y → x ≡ y
same_entry x y h =
    let p : ◌≡◌ {A = Option ChartEntry} (Some x) (Some y) = sym (own_entry x (entry_number y) h) ∙ own_entry y (entry_number y) refl in
    cc

-- what is found has the number
abbrev Right : {X : Type 0} → (X → ℕ) → ℕ → Option X → Type 0
Right number n None = Unit {0}
Right number n (Some x) = number x ≡ n

right_if : {X : Type 0} (number : X → ℕ) (n : ℕ) (x : X) (rest : Option X) (b : Bool) → Decides b (number x ≡ n) → Right number n rest → Right number n (cond b (Some x) rest)
right_if number n x rest true d h = d.0 refl
right_if number n x rest false d h = h

right_found : {X : Type 0} (number : X → ℕ) (n : ℕ) (xs : List X) → Right number n (found number n xs)
right_found number n [] = tt
right_found number n (x ∷ xs) =
    right_if number n x (found number n xs) (number x == n) (Decides-eqb (number x) n) (right_found number n xs)

right_both : (n : ℕ) (s : Option Stroke) (r : Option Rods) → Right stroke_number (n / 16) s → Right rods_number (n % 16) r → Right entry_number n (both s r)
right_both n None r p q = tt
right_both n (Some s) None p q = tt
right_both n (Some s) (Some r) p q = omega arith

made_as : (n : ℕ) (o : Option ChartEntry) → o ≡ chart_entry_of n → Right entry_number n o → MadeEntry entry_number n o
made_as n None e h = λ x hx. cc (own_entry x n hx)
made_as n (Some x) e h = h

pub made_entry : (n : ℕ) → MadeEntry entry_number n (chart_entry_of n)
made_entry n =
    made_as n (chart_entry_of n) refl
    (right_both n (stroke_of (n / 16)) (rods_of (n % 16)) (right_found stroke_number (n / 16) strokes) (right_found rods_number (n % 16) all_rods))
