use Rattle.displace.proofs.Choosing.{Chosen}
use Rattle.displace.proofs.counters.Counters.choose.Given as goal

abbrev pub invariant-loop-k : goal.invariant-loop-k
invariant-loop-k l = Chosen l.self.r l.k l.d l.class l.self.counts.now
