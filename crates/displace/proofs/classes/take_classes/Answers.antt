use Rattle.std.proofs.Common.{rules, [], nat_le, nat_eq}
use Rattle.displace.proofs.Passing.{taken_none, taken_all, passable_first, passable_next}
use Rattle.displace.proofs.classes.take_classes.Goals as goal

pub pass-requires-clause-answers : goal.pass-requires-clause-answers
pass-requires-clause-answers c = (λ n. nat_le 2 n, λ n b h p. search rules)

pub pass-requires-clause-room : goal.pass-requires-clause-room
pass-requires-clause-room c =
    let columns = c.args.chains.now.columns in
    let none = taken_none columns.r columns.class.now columns.moved.now c.args.counters.now.counts.now c.fill.new.self c.requires.fresh (search rules) in
    passable_first columns.r columns.class.now columns.moved.now _ _ columns.fit none

pub pass-requires-2-clause-answers : goal.pass-requires-2-clause-answers
pass-requires-2-clause-answers c = (λ n. nat_eq n 1, λ n b h p. search rules)

pub pass-requires-2-clause-room : goal.pass-requires-2-clause-room
pass-requires-2-clause-room c =
    let columns = c.args.chains.now.columns in
    let none = taken_none columns.r columns.class.now columns.moved.now c.args.counters.now.counts.now c.fill.new.self c.requires.fresh (search rules) in
    passable_next (λ n. nat_le 2 n) columns.r columns.class.now columns.moved.now _ _ columns.fit (c.pass.ensures.taken _ [] (λ n b h p. search rules) none)

pub returns : goal.returns
returns c =
    let columns = c.args.chains.now.columns in
    let none = taken_none columns.r columns.class.now columns.moved.now c.args.counters.now.counts.now c.fill.new.self c.requires.fresh (search rules) in
    taken_all columns.r columns.class.now columns.moved.now c.pass-2.new.counters.counts.now c.pass-2.new.out (search rules)
    (c.pass-2.ensures.taken (λ n. nat_eq n 1) _ (λ n b h p. search rules) (c.pass.ensures.taken (λ n. nat_le 2 n) [] (λ n b h p. search rules) none))
