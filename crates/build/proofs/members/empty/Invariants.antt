use Rattle.std.proofs.Common.{◌≡◌}
use Rattle.build.specs.Filled.{emptied}
use Rattle.build.proofs.members.empty.Given as goal

abbrev pub invariant-loop-slot : goal.invariant-loop-slot
invariant-loop-slot g l = l.slot-items ≡ emptied l.slot-index l.initial.slot-items
