use Rattle.std.proofs.Common.{◌≡◌, length}
use Rattle.build.specs.Steps.{filled_from}
use Rattle.build.proofs.members.fill.Given as goal

abbrev pub invariant-loop-member : goal.invariant-loop-member
invariant-loop-member g l = filled_from l.places l.members (length l.yielded) l.slots ≡ filled_from l.places l.members 0 l.initial.slots
