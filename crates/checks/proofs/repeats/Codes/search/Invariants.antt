use Rattle.std.proofs.Common.{◌≡◌, ◌<◌, length}
use Rattle.checks.specs.Checks.{repeated_in}
use Rattle.checks.specs.Steps.{repeated_from, Chained, Passed}
use Rattle.checks.proofs.repeats.Codes.search.Given as goal

abbrev pub invariant-loop-position : goal.invariant-loop-position
invariant-loop-position l = (repeated_from l.self.fronts.now l.self.backs.now (length l.yielded) ≡ repeated_in l.self.fronts.now l.self.backs.now) × Chained l.self.fronts.now l.self.backs.now l.heads l.links (length l.yielded)

abbrev pub invariant-loop-row : goal.invariant-loop-row
invariant-loop-row l = (l.position < length l.self.fronts.now) × Passed l.self.fronts.now l.self.backs.now (length l.heads) l.position l.row

abbrev pub decreases-loop-row : goal.decreases-loop-row
decreases-loop-row l = l.row
