-- Reading number after number. Assumes nothing.
use Rattle.std.specs.Prelude.{ℕ, zero, suc, cond, List, length, Some, None, Ok, Err, Option, nat_lt}
use Rattle.fault.specs.declared.Fault.{Fault}
use Rattle.varint.specs.Calls.{read_at}

-- the first refusal from an offset on, within as many numbers as most says
unfoldable pub scanned : ℕ → List ℕ → ℕ → Option Fault
scanned zero bytes at = None
scanned (suc most) bytes at = cond (nat_lt at (length bytes)) (elim (read_at bytes at) [ Ok p ↦ scanned most bytes p.1 | Err f ↦ Some f ]) None

-- every number takes a byte at least, so there are at most as many numbers as bytes
abbrev pub first_refusal : List ℕ → Option Fault
first_refusal bytes = scanned (length bytes) bytes 0
