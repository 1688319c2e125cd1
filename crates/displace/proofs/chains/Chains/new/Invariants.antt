use Rattle.displace.specs.Rows.{Headed, Linked}
use Rattle.displace.proofs.chains.Chains.new.Given as goal

abbrev pub invariant-loop-i : goal.invariant-loop-i
invariant-loop-i l =
    record {
      headed : Headed l.columns.class.now l.i l.heads;
      linked : Linked l.columns.class.now l.i l.links;
    }
