-- What the calls answer and leave. Assumes nothing.
use Rattle.std.specs.Prelude.{◌≡◌, ℕ, ◌+◌, ◌-◌, ◌^◌, ◌<◌, ◌≤◌, min, false, cond, List, ◌++◌, length, take, drop, Ok, Err, Result, nat_le}
use Rattle.fault.specs.declared.Fault.{Fault}
use Rattle.fault.specs.declared.Fault.TheVariants.{ShortOutput, EndOfBytes, MalformedNumber}
use Rattle.varint.specs.Width.{more_groups, numbers}
use Rattle.varint.specs.Groups.{groups, value, Reading, ended, malformed, number, reading}

-- a reading at an offset as an answer: the number and the offset behind it
abbrev pub told : List ℕ → ℕ → Reading → Result (ℕ × ℕ) Fault
told bytes at ended = Err (EndOfBytes (length bytes))
told bytes at malformed = Err (MalformedNumber at)
told bytes at (number n len) = Ok (n, at + len)

-- what `read` answers
abbrev pub read_at : List ℕ → ℕ → Result (ℕ × ℕ) Fault
read_at bytes at = told bytes at (reading more_groups false (drop at bytes))

-- from `at` up to `end` the bytes are the written form of n
pub record Stands (bytes : List ℕ) (at n end : ℕ) : Type 0 where
  pub below : n < numbers
  pub form : take (end - at) (drop at bytes) ≡ groups n
  pub forward : at < end
  pub within : end ≤ length bytes

-- if a number's written form stands at the offset, the answer is that number
abbrev pub Back : List ℕ → ℕ → Result (ℕ × ℕ) Fault → Type 0
Back bytes at a = (n : ℕ) → n < numbers → take (length (groups n)) (drop at bytes) ≡ groups n → a ≡ Ok (n, at + length (groups n))

-- xs with the bytes ys written at an offset
abbrev pub put_at : List ℕ → ℕ → List ℕ → List ℕ
put_at xs at ys = take at xs ++ (ys ++ drop (at + length ys) xs)

-- what `write` answers for an output of that length: the offset behind the number, or the bytes needed
-- (at most the largest that a spot can tell)
abbrev pub write_answer : ℕ → ℕ → ℕ → Result ℕ Fault
write_answer len at n = cond (nat_le (at + length (groups n)) len) (Ok (at + length (groups n))) (Err (ShortOutput (min (at + length (groups n)) (2 ^ 64 - 1))))

-- what the output then holds
abbrev pub written : List ℕ → ℕ → ℕ → List ℕ
written out at n = cond (nat_le (at + length (groups n)) (length out)) (put_at out at (groups n)) out

-- no bytes that stand for n are fewer than those written
pub record Fewest (n : ℕ) : Type 0 where
  pub same : value (groups n) ≡ n
  pub fewest : (bytes : List ℕ) → 0 < length bytes → value bytes ≡ n → length (groups n) ≤ length bytes
