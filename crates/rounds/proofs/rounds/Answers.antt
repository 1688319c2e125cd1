use Rattle.std.proofs.Common.{◌^◌, List, ◌++◌, drop, ap, ◌∙◌}
use Rattle.rounds.proofs.Carrying.{firsts_are, takes_firsts}
use Rattle.rounds.proofs.rounds.Goals as goal

pub finish-pairs-requires-clause-first : goal.finish-pairs-requires-clause-first
finish-pairs-requires-clause-first c =
    takes_firsts c.args.r c.args.fronts.now c.args.backs.now c.round.new.out (drop (2 ^ c.args.r) c.args.first.now)
    (c.in_ok-round.ensures.after ∙ ap (λ (ds : List _). ds ++ drop (2 ^ c.args.r) c.args.first.now) (firsts_are c.args.r c.args.fronts.now c.args.backs.now))

pub returns-clause-first : goal.returns-clause-first
returns-clause-first c = c.in_ok-round.ensures.after ∙ ap (λ (ds : List _). ds ++ drop (2 ^ c.args.r) c.args.first.now) (firsts_are c.args.r c.args.fronts.now c.args.backs.now)
