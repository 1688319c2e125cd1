use Rattle.std.proofs.Common.{◌≡◌}
use Rattle.displace.proofs.Counting.{entered}
use Rattle.displace.proofs.counters.Counters.enter.Given as goal

abbrev pub invariant-loop-w : goal.invariant-loop-w
invariant-loop-w l = l.counts ≡ entered l.w l.y l.initial.counts
