use Rattle.std.proofs.Common.{◌≡◌, ℕ, Bool, length}
use Rattle.displace.specs.Passes.{Tests}
use Rattle.displace.proofs.Passing.{Passes}
use Rattle.displace.proofs.classes.pass.Given as goal

abbrev pub invariant-loop-v : goal.invariant-loop-v
invariant-loop-v g l =
    record {
      same : l.counters.r ≡ l.initial.counters.r;
      long : length l.group ≡ length l.initial.group;
      passes :
          (takes : ℕ → Bool)
          → Tests (goal.F-post g l.test) takes
          → Passes takes l.chains.columns.r l.chains.columns.class.now l.chains.columns.moved.now l.initial.counters.counts.now l.initial.out l.v l.counters.counts.now
          l.out;
    }
