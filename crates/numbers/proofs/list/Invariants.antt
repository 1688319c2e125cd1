use Rattle.std.proofs.Common.{◌≡◌, ◌-◌, ◌≤◌, length}
use Rattle.numbers.specs.Scan.{scanned, first_refusal}
use Rattle.numbers.proofs.list.Given as goal

abbrev pub invariant-loop-number : goal.invariant-loop-number
invariant-loop-number g l = record {
  bytes : l.number-iterator.bytes.now ≡ l.bytes;
  few : l.count ≤ l.number-iterator.at;
  within : l.number-iterator.at ≤ length l.bytes;
  scan : scanned (length l.bytes - l.count) l.bytes l.number-iterator.at ≡ first_refusal l.bytes;
}
