use Rattle.std.proofs.Common.{◌≤◌, length, ◌∙◌, arith}
use Rattle.std.proofs.lemmas.List.{take_all}
use Rattle.displace.proofs.Counting.{class_more, class_room}
use Rattle.displace.proofs.counters.Counters.settle.Goals as goal

pub enter-requires : goal.enter-requires
enter-requires c =
    rw c.loop-m.invariant.same
    (class_room c.args.self.now.r c.choose-d.result c.args.class.now c.loop-m.m-index c.args.self.now.counts.now c.loop-m.self.counts.now
    c.loop-m-test.true c.requires c.loop-m.invariant.counts)

pub loop-m-preserved : goal.loop-m-preserved
loop-m-preserved c =
    record {
      same = c.enter.ensures.same ∙ c.loop-m.invariant.same;
      counts =
          class_more c.args.self.now.r c.choose-d.result c.args.class.now c.loop-m.m-index c.args.self.now.counts.now c.loop-m.self.counts.now c.enter.new.self.counts.now
          c.loop-m-test.true c.loop-m.invariant.counts (rw c.loop-m.invariant.same at c.enter.ensures.counted);
    }

pub returns-clause-settled : goal.returns-clause-settled
returns-clause-settled c =
    λ ys counts.
    let all : length c.args.class.now ≤ c.loop-m.m-index = omega arith in
    (c.choose-d.ensures.chosen ys counts, rw take_all at (c.loop-m.invariant.counts ys counts))
