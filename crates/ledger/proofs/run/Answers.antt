use Rattle.ledger.proofs.Running.{run_keeps}
use Rattle.ledger.proofs.run.Goals as goal

pub returns-clause-law : goal.returns-clause-law
returns-clause-law g c = run_keeps g.met.C.Code.same _ c.carry_out_all.ensures.slots c.carry_out_all.ensures.answers
