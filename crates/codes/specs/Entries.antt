-- Entries of a chart: the number of each, and the entry with a given number.
use Rattle.std.specs.Prelude.{ℕ, ◌+◌, ◌*◌, ◌/◌, ◌%◌, cond, List, [], ◌∷◌, ◌++◌, Some, None, Option, ◌==◌, codes, decimal}
use Rattle.codes.specs.declared.entries.ChartEntry.{ChartEntry}
use Rattle.codes.specs.declared.entries.Stroke.{Stroke}
use Rattle.codes.specs.declared.entries.UnknownRods.{UnknownRods}
use Rattle.codes.specs.declared.entries.UnknownStroke.{UnknownStroke}
use Rattle.codes.specs.declared.entries.Stroke.TheVariants.{Randing, Slewing, Waling, Pairing, Fitching}
use Rattle.codes.specs.declared.entries.Rods.{Rods}
use Rattle.codes.specs.declared.entries.Rods.TheVariants.{One, Two, Three, Four, Five, Six, Seven, Eight, Nine, Ten, Eleven, Twelve, Thirteen, Fourteen, Fifteen}

-- The number of each stroke.
abbrev pub stroke_number : Stroke → ℕ
stroke_number Randing = 0
stroke_number Slewing = 1
stroke_number Waling = 2
stroke_number Pairing = 3
stroke_number Fitching = 4

-- How many rods each case is.
abbrev pub rods_number : Rods → ℕ
rods_number One = 1
rods_number Two = 2
rods_number Three = 3
rods_number Four = 4
rods_number Five = 5
rods_number Six = 6
rods_number Seven = 7
rods_number Eight = 8
rods_number Nine = 9
rods_number Ten = 10
rods_number Eleven = 11
rods_number Twelve = 12
rods_number Thirteen = 13
rods_number Fourteen = 14
rods_number Fifteen = 15

abbrev pub strokes : List Stroke
strokes = Randing ∷ Slewing ∷ Waling ∷ Pairing ∷ Fitching ∷ []

abbrev pub all_rods : List Rods
all_rods =
    One ∷ Two ∷ Three ∷ Four ∷ Five ∷ Six ∷ Seven ∷ Eight ∷ Nine ∷ Ten ∷ Eleven ∷ Twelve ∷ Thirteen ∷ Fourteen ∷ Fifteen ∷ []

-- The first of a list with the number n, if one has it.
abbrev pub found : {X : Type 0} → (X → ℕ) → ℕ → List X → Option X
found number n [] = None
found number n (x ∷ xs) = cond (number x == n) (Some x) (found number n xs)

-- The stroke with the number n, and the case of n rods, if there is one.
abbrev pub stroke_of : ℕ → Option Stroke
stroke_of n = found stroke_number n strokes

abbrev pub rods_of : ℕ → Option Rods
rods_of n = found rods_number n all_rods

-- That no stroke, or no case of rods, has a number, in words.
abbrev pub no_stroke : UnknownStroke → List ℕ
no_stroke e = codes "no stroke has the number " ++ decimal e.0

abbrev pub no_rods : UnknownRods → List ℕ
no_rods e = codes "no rods have the number " ++ decimal e.0

-- The number of an entry: 16 × stroke + rods.
abbrev pub entry_number : ChartEntry → ℕ
entry_number e = 16 * stroke_number e.stroke + rods_number e.rods

-- The entry of a stroke and rods, if both are there.
abbrev pub both : Option Stroke → Option Rods → Option ChartEntry
both None r = None
both (Some s) None = None
both (Some s) (Some r) = Some (record { stroke = s; rods = r })

-- The entry with the number n, if one has it.
abbrev pub chart_entry_of : ℕ → Option ChartEntry
chart_entry_of n = both (stroke_of (n / 16)) (rods_of (n % 16))
