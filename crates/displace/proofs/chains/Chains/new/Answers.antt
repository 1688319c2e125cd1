use Rattle.std.proofs.Common.{◌<◌, length, get_or, arith, rules}
use Rattle.std.proofs.lemmas.Grind.{common_steps}
use Rattle.displace.proofs.Linking.{headed_none, headed_more}
use Rattle.displace.proofs.chains.Chains.new.Goals as goal

pub loop-i-init : goal.loop-i-init
loop-i-init c =
    record {
      headed = headed_none c.args.columns.class.now c.fill.new.self (search rules);
      linked = search rules;
    }

pub loop-i-preserved : goal.loop-i-preserved
loop-i-preserved c =
    let class = c.args.columns.class.now in
    let i = c.loop-i.i in
    let v = get_or class i 0 in
    let h : v < length c.loop-i.heads = omega (arith, c.args.columns.fit.class_fits i c.loop-i-test.true) in
    record {
      headed = headed_more class c.loop-i.heads i h c.loop-i.invariant.headed;
      linked = λ j l. grind (arith, common_steps, c.loop-i.invariant.headed v h, c.loop-i.invariant.linked j);
    }
