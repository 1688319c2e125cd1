-- Reading at an offset. Assumes nothing.
use Rattle.std.proofs.Common.{◌≡◌, ℕ, ◌+◌, ◌-◌, ◌<◌, ◌≤◌, false, List, ◌++◌, length, take, drop, IfOk, Ok, sym, refl, ap, ◌∙◌, arith, length-drop, take-append-drop, length-take-le}
use Rattle.std.proofs.lemmas.List.{take_at, drop_at}
use Rattle.std.proofs.lemmas.Bool.{false≢true}
use Rattle.varint.specs.Width.{more_groups, numbers}
use Rattle.varint.specs.Groups.{groups, Reading, ended, malformed, number, reading}
use Rattle.varint.specs.Calls.{told, read_at, Stands, put_at}
use Rattle.varint.proofs.Forms.{reading-grouped, reads_front}

-- the written form of a number at an offset is read as that number
pub reads_back : (bytes : List ℕ) (at n : ℕ) → n < numbers → take (length (groups n)) (drop at bytes) ≡ groups n → read_at bytes at ≡ Ok (n, at + length (groups n))
reads_back bytes at n h e =
    let split = sym (take-append-drop (length (groups n)) (drop at bytes)) ∙ ap (λ (l : List ℕ). l ++ drop (length (groups n)) (drop at bytes)) e in
    ap (λ (l : List ℕ). told bytes at (reading more_groups false l)) split ∙
    ap (told bytes at) (reading-grouped more_groups n false (drop (length (groups n)) (drop at bytes)) h (λ f. absurd (false≢true f)))

-- so is what was just written there
pub reads_written : (bytes : List ℕ) (at n : ℕ) → n < numbers → at + length (groups n) ≤ length bytes → read_at (put_at bytes at (groups n)) at ≡ Ok (n, at + length (groups n))
reads_written bytes at n h room =
    let front = drop_at (take at bytes) (groups n ++ drop (at + length (groups n)) bytes) at (length-take-le at bytes (omega arith)) in
    reads_back (put_at bytes at (groups n)) at n h (ap (take (length (groups n))) front ∙ take_at (groups n) (drop (at + length (groups n)) bytes) (length (groups n)) refl)

-- what was read is the written form of a number
stands : (bytes : List ℕ) (at n len : ℕ) → reading more_groups false (drop at bytes) ≡ number n len → Stands bytes at n (at + len)
stands bytes at n len e =
    let f = reads_front more_groups false (drop at bytes) n len e in
    let same : at + len - at ≡ len = omega arith in
    record {
      below = f.below;
      form = ap (λ k. take k (drop at bytes)) same ∙ f.form;
      forward = omega (arith, f.some);
      within = omega (arith, f.within, f.some, length-drop at bytes);
    }

pub form_read : (bytes : List ℕ) (at : ℕ) → IfOk (read_at bytes at) (λ p. Stands bytes at p.0 p.1)
form_read bytes at = go (reading more_groups false (drop at bytes)) refl
  where
    go : (r : Reading) → reading more_groups false (drop at bytes) ≡ r → IfOk (told bytes at r) (λ p. Stands bytes at p.0 p.1)
    go ended e = tt
    go malformed e = tt
    go (number n len) e = stands bytes at n len e
