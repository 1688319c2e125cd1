use Rattle.std.proofs.Common.{◌≡◌, length}
use Rattle.checks.specs.Checks.{large_in}
use Rattle.checks.specs.Steps.{large_from}
use Rattle.checks.proofs.large_half.Given as goal

abbrev pub invariant-loop-position : goal.invariant-loop-position
invariant-loop-position l = large_from l.n l.fronts l.backs (length l.yielded) ≡ large_in l.n l.fronts l.backs
