use Rattle.std.proofs.Common.{◌≤◌, length, drop}
use Rattle.displace.proofs.Linking.{Walked}
use Rattle.displace.proofs.chains.Chains.gather.Given as goal

abbrev pub invariant-loop-row : goal.invariant-loop-row
invariant-loop-row l =
    record {
      room : l.row ≤ l.start;
      within : l.start ≤ length l.group;
      walked : Walked l.self.columns.class.now l.self.columns.moved.now l.v l.row (drop l.start l.group);
    }

abbrev pub decreases-loop-row : goal.decreases-loop-row
decreases-loop-row l = l.row
