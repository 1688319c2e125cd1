-- Bytes written into a list, one after another. Assumes nothing.
use Rattle.std.proofs.Common.{◌≡◌, ℕ, suc, ◌+◌, ◌<◌, List, [], ◌∷◌, ◌++◌, length, take, drop, set, ap, ◌∙◌, append_assoc, arith}
use Rattle.std.proofs.lemmas.List.{take_more_set, drop-set-lt}
use Rattle.varint.specs.Calls.{put_at}

-- one byte more
pub put_at_more : (xs : List ℕ) (at b : ℕ) (ys : List ℕ) → at < length xs → put_at (set xs at b) (at + 1) ys ≡ put_at xs at (b ∷ ys)
put_at_more xs at b ys h =
    let n : at + 1 + length ys ≡ at + suc (length ys) = omega arith in
    let t = take_more_set xs at b h in
    let d = drop-set-lt (at + 1 + length ys) xs at b (omega arith) ∙ ap (λ k. drop k xs) n in
    (λ i. t i ++ (ys ++ d i)) ∙ append_assoc (take at xs) (b ∷ []) (ys ++ drop (at + suc (length ys)) xs)
