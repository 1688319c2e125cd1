-- An iterator over the numbers of some bytes. Assumes nothing.
use Rattle.std.specs.Prelude.{◌≡◌, ℕ, ◌-◌, ◌<◌, ◌≤◌, length, Some, None, Ok, Err, Option, Result}
use Rattle.fault.specs.declared.Fault.{Fault}
use Rattle.varint.specs.Calls.{read_at}
use Rattle.numbers.specs.declared.Numbers.{Numbers}

-- how many bytes are not read yet
abbrev pub bytes_left : Numbers → ℕ
bytes_left s = length s.bytes.now - s.at

-- a call gives what is read at the offset and goes on behind it; a refusal ends the bytes, and behind them there is nothing
abbrev pub TakesNumber : Numbers → Option (Result (ℕ × ℕ) Fault) → Numbers → Type 0
TakesNumber s None t = (length s.bytes.now ≤ s.at) × (t ≡ s)
TakesNumber s (Some (Ok p)) t = (p.0 ≡ s.at) × (read_at s.bytes.now s.at ≡ Ok (p.1, t.at)) × (s.at < t.at) × (t.at ≤ length s.bytes.now) × (t.bytes ≡ s.bytes)
TakesNumber s (Some (Err f)) t = (s.at < length s.bytes.now) × (read_at s.bytes.now s.at ≡ Err f) × (t.at ≡ length s.bytes.now) × (t.bytes ≡ s.bytes)
