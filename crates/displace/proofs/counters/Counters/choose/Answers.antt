use Rattle.std.proofs.Common.{◌+◌, sym, ◌∙◌, arith}
use Rattle.displace.proofs.Choosing.{Chosen, chosen_none, chosen_more, chosen_early}
use Rattle.displace.proofs.counters.Counters.choose.Goals as goal

pub loop-k-init : goal.loop-k-init
loop-k-init c = chosen_none c.args.self.now.r c.args.class.now c.args.self.now.counts.now

pub loop-k-preserved : goal.loop-k-preserved
loop-k-preserved c =
    chosen_more c.args.self.now.r c.loop-k.k c.loop-k.d c.pick-picked.result.0 c.args.class.now c.args.self.now.counts.now
    c.loop-k-test.true c.loop-k.invariant c.pick-picked.ensures.bit

pub returns-then-left-eq0 : goal.returns-then-left-eq0
returns-then-left-eq0 c =
    let r = c.args.self.now.r in
    let more =
    chosen_more r c.loop-k.k c.loop-k.d c.pick-picked.result.0 c.args.class.now c.args.self.now.counts.now
    c.loop-k-test.true c.loop-k.invariant c.pick-picked.ensures.bit in
    let all : Chosen r r c.pick-picked.result.0 c.args.class.now c.args.self.now.counts.now =
    chosen_early r (c.loop-k.k + 1) c.pick-picked.result.0 c.args.class.now c.args.self.now.counts.now
    (omega arith) more (sym c.pick-picked.ensures.left ∙ c.if-left-eq0.true) in
    record { within = all.0; chosen = all.1 }
