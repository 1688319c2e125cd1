-- A column of classes that becomes a column of results, row by row. Assumes nothing.
use Rattle.std.proofs.Common.{◌≡◌, ℕ, ◌<◌, ◌≤◌, List, map, length, get_or, sym, ap, ◌∙◌, arith}
use lib.Bits.{bit_xor}
use Rattle.std.specs.List.{zip}
use Rattle.std.proofs.lemmas.List.{ext_get_or, length-map, get_or-map}
use Rattle.std.proofs.lemmas.Slice.Zip.{length-zip, get_or-zip}
use Rattle.rounds.specs.Halves.{moved_by}

-- the rows below i have their results, and the others still their classes
pub record Moved (ds class moved : List ℕ) (i : ℕ) (now : List ℕ) : Type 0 where
  pub below : (k : ℕ) → k < i → get_or now k 0 ≡ bit_xor (get_or moved k 0) (get_or ds (get_or class k 0) 0)
  pub others : (k : ℕ) → i ≤ k → get_or now k 0 ≡ get_or class k 0

pub moved_all : (ds class moved now : List ℕ) (i : ℕ) → length moved ≡ length class → length now ≡ length class → length moved ≤ i → Moved ds class moved i now
    → now ≡ moved_by ds class moved
unfolding moved_by
moved_all ds class moved now i long same h so =
    let f = λ (x : ℕ × ℕ). bit_xor x.1 (get_or ds x.0 0) in
    let a = length-zip class moved in
    let b = length-map (zip class moved) f in
    ext_get_or 0 now (map f (zip class moved)) (omega arith)
    (λ k l.
    so.below k (omega arith)
    ∙ sym (get_or-map f (zip class moved) k (0, 0) 0 (omega arith) ∙ ap f (get_or-zip class moved k (0, 0) (omega arith) (omega arith))))
