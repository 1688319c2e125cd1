use Rattle.std.proofs.Common.{◌+◌, refl, arith, rules}
use Rattle.displace.proofs.Counting.{entered, entered_room, entered_more, counts_more}
use Rattle.displace.proofs.counters.Counters.enter.Goals as goal

pub loop-w-init : goal.loop-w-init
unfolding entered
loop-w-init c = refl

pub overflow_add-counts : goal.overflow_add-counts
overflow_add-counts c = search (rules, entered_room)

pub loop-w-preserved : goal.loop-w-preserved
loop-w-preserved c = search (rules, entered_more)

pub returns-2-clause-counted : goal.returns-2-clause-counted
returns-2-clause-counted c =
    λ ys k. counts_more c.args.self.now.r c.args.y (c.loop-w.w + 1) ys c.args.self.now.counts.now _ (omega arith) (search (rules, entered_more)) k
