use Rattle.rounds.proofs.Moving.{Moved}
use Rattle.rounds.proofs.columns.move_all.Given as goal

abbrev pub invariant-loop-i : goal.invariant-loop-i
invariant-loop-i l = Moved l.displacements l.initial.classes l.moved l.i l.classes
