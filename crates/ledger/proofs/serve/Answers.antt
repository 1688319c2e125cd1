use Rattle.ledger.proofs.Serving.{serve_keeps}
use Rattle.ledger.proofs.serve.Goals as goal

pub returns-clause-law : goal.returns-clause-law
returns-clause-law g c =
    serve_keeps g.met.C.Code.same c.in_ok-counts.ensures.built c.in_ok-counts.ensures.law _ c.carry_out_all.ensures.slots c.carry_out_all.ensures.answers
