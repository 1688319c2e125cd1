use Rattle.std.proofs.Common.{◌≡◌}
use Rattle.displace.proofs.Counting.{Entered}
use Rattle.displace.proofs.counters.Counters.settle.Given as goal

abbrev pub invariant-loop-m : goal.invariant-loop-m
invariant-loop-m l =
    record { same : l.self.r ≡ l.initial.self.r; counts : Entered l.initial.self.r l.d l.class l.m-index l.initial.self.counts.now l.self.counts.now }
