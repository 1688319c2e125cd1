use Rattle.std.proofs.Common.{arith}
use Rattle.rounds.proofs.Moving.{moved_all}
use Rattle.rounds.proofs.columns.move_all.Goals as goal

pub returns : goal.returns
returns c =
    moved_all c.args.displacements.now c.args.classes.now c.args.moved.now c.loop-i.classes c.loop-i.i c.requires.long (omega arith)
    (omega arith) c.loop-i.invariant
