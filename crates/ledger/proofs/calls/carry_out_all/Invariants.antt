-- What the calls that are left come to.
use Rattle.ledger.proofs.Turns.{Turning}
use Rattle.ledger.proofs.calls.carry_out_all.Given as goal

abbrev pub invariant-loop-i : goal.invariant-loop-i
invariant-loop-i g l = Turning g.C.Code.front_of g.C.Code.back_of l.r l.first l.second l.calls l.initial.slots l.initial.answers l.i l.slots l.answers
