use Rattle.std.proofs.Common.{ap, ◌∙◌}
use Rattle.rounds.specs.Halves.{shared_rows}
use Rattle.rounds.proofs.Carrying.{pairs_are}
use Rattle.rounds.proofs.members.Members.shared_pairs.Goals as goal

pub returns : goal.returns
returns c =
    let m = c.args.self.now in
    c.count_shared.ensures ∙ ap shared_rows c.requires.placed ∙ pairs_are m.r m.fronts.now m.backs.now m.fit.equal
