use Rattle.rounds.proofs.Sharing.{Counted}
use Rattle.rounds.proofs.columns.count_shared.Given as goal

abbrev pub invariant-loop-x : goal.invariant-loop-x
invariant-loop-x l = Counted l.rows l.x-index l.counters l.pairs
