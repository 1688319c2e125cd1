use Rattle.std.proofs.Common.{◌-◌, length, sym, arith}
use Rattle.std.proofs.lemmas.List.{length-set}
use Rattle.displace.proofs.Linking.{headed_within, linked_falls, walked_none, walked_more, walked_all}
use Rattle.displace.proofs.chains.Chains.gather.Goals as goal

pub loop-row-init : goal.loop-row-init
loop-row-init c =
    let chains = c.args.self.now in
    let class = chains.columns.class.now in
    let v = c.args.v in
    let last = headed_within class chains.heads.now (length class) v (omega arith) chains.headed in
    record {
      room = omega arith;
      within = omega arith;
      walked =
          walked_none class chains.columns.moved.now v (sym chains.columns.fit.equal) _ (length c.args.group.now) c.args.group.now
          (chains.headed v (omega arith)) (omega arith);
    }

pub loop-row-smaller : goal.loop-row-smaller
loop-row-smaller c =
    let falls = linked_falls c.args.self.now.columns.class.now c.args.self.now.links.now c.args.self.now.rows c.args.self.now.linked in
    omega (arith, falls (c.loop-row.row - 1) (omega (arith, c.loop-row.invariant.walked.within)))

pub loop-row-preserved : goal.loop-row-preserved
loop-row-preserved c =
    let chains = c.args.self.now in
    let class = chains.columns.class.now in
    let falls = linked_falls class chains.links.now chains.rows chains.linked in
    record {
      room = omega (arith, falls (c.loop-row.row - 1) (omega (arith, c.loop-row.invariant.walked.within)));
      within = simp length-set (omega arith);
      walked =
          walked_more class chains.columns.moved.now c.args.v (sym chains.columns.fit.equal) chains.links.now c.loop-row.row c.loop-row.start c.loop-row.group
          chains.linked (omega arith) (omega arith) (omega arith) c.loop-row.invariant.walked;
    }

pub returns-clause-gathered : goal.returns-clause-gathered
returns-clause-gathered c =
    walked_all c.args.self.now.columns.class.now c.args.self.now.columns.moved.now c.args.v (sym c.args.self.now.columns.fit.equal) c.loop-row.row _
    (omega arith) c.loop-row.invariant.walked
