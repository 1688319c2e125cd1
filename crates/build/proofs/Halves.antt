-- The halves of the members as columns. Assumes nothing.
use Rattle.std.proofs.Common.{◌≡◌, ℕ, ◌+◌, ◌<◌, List, [], ◌∷◌, ◌++◌, map, length, get_or, take, drop, set, sym, ap, ap₂, ◌∙◌, arith}
use Rattle.std.proofs.lemmas.List.{append_assoc, drop_more, set_at, map_more, length-map, length-take-le}
use Rattle.build.specs.declared.Member.{Member}
use Rattle.build.specs.Built.{half}
use Rattle.build.specs.Steps.{column, column_to}

-- one half more is written
pub column_more : {C V : Type 0} (of : C → ℕ) (ms : List (Member C V)) (i : ℕ) (old written : List ℕ) (member : Member C V) (number : ℕ) → i < length ms → i < length old → member ≡ get_or ms i member
    → number ≡ of member.code → written ≡ column_to of ms i old → set written i number ≡ column_to of ms (i + 1) old
unfolding column
column_more of ms i old written member number h l e eh ec =
    let done = map (half of) (take i ms) in
    let long : length done ≡ i = length-map (take i ms) (half of) ∙ length-take-le i ms (omega arith) in
    ap₂ (λ (xs : List ℕ) (x : ℕ). set xs i x) ec eh
    ∙ ap (λ (rest : List ℕ). set (done ++ rest) i (half of member)) (drop_more old i 0 l)
    ∙ set_at done (get_or old i 0) (drop (i + 1) old) (half of member) i long
    ∙ sym (append_assoc done (half of member ∷ []) (drop (i + 1) old))
    ∙ ap (λ m. (done ++ half of m ∷ []) ++ drop (i + 1) old) e
    ∙ ap (λ (xs : List ℕ). xs ++ drop (i + 1) old) (sym (map_more (half of) ms i member h))
