use Rattle.std.proofs.Common.{◌<◌, length, rules, arith}
use Rattle.ledger.proofs.Turns.{turn, slots_end, answers_end}
use Rattle.ledger.proofs.calls.carry_out_all.Goals as goal

pub offset_bounds-answers-i : goal.offset_bounds-answers-i
offset_bounds-answers-i g c = let within : c.loop-i.i < length c.args.answers.now = omega arith in search rules

pub loop-i-preserved : goal.loop-i-preserved
loop-i-preserved g c =
    turn c.loop-i.invariant (omega arith) (omega arith) c.index-calls-i.is c.carry_out.ensures.after c.carry_out.ensures.answer

pub returns-clause-slots : goal.returns-clause-slots
returns-clause-slots g c = slots_end c.loop-i.invariant (omega arith)

pub returns-clause-answers : goal.returns-clause-answers
returns-clause-answers g c = answers_end c.loop-i.invariant (omega arith)
