-- One step of reading number after number. Assumes nothing.
use Rattle.std.proofs.Common.{◌≡◌, ℕ, zero, suc, ◌+◌, ◌-◌, ◌<◌, ◌≤◌, List, length, Some, None, Ok, Err, Option, Result, refl, arith}
use Rattle.std.proofs.lemmas.Bool.{lt-ltb, le-ltb}
use Rattle.fault.specs.declared.Fault.{Fault}
use Rattle.varint.specs.Calls.{read_at}
use Rattle.numbers.specs.Scan.{scanned}

-- the first refusal from a number that was read on, or from its refusal
abbrev pub behind : ℕ → List ℕ → Result (ℕ × ℕ) Fault → Option Fault
behind most bytes (Ok p) = scanned most bytes p.1
behind most bytes (Err f) = Some f

step : (most : ℕ) (bytes : List ℕ) (at : ℕ) → at < length bytes → scanned (suc most) bytes at ≡ behind most bytes (read_at bytes at)
unfolding scanned
step most bytes at h = rw (lt-ltb at (length bytes) h) refl

pub scanned_more : (len count : ℕ) (bytes : List ℕ) (at : ℕ) → count < len → at < length bytes → scanned (len - count) bytes at ≡ behind (len - (count + 1)) bytes (read_at bytes at)
scanned_more len count bytes at few h =
    let more : len - count ≡ suc (len - (count + 1)) = omega arith in
    rw more (step (len - (count + 1)) bytes at h)

pub scanned_end : (most : ℕ) (bytes : List ℕ) (at : ℕ) → length bytes ≤ at → scanned most bytes at ≡ None
unfolding scanned
scanned_end zero bytes at h = refl
scanned_end (suc most) bytes at h = rw (le-ltb at (length bytes) h)
