use Rattle.std.proofs.Common.{ℕ, List, ap, ◌∙◌, arith}
use Rattle.rounds.specs.Halves.{moved_by}
use Rattle.rounds.proofs.Carrying.{places_are, places_fit, seconds-long}
use Rattle.rounds.proofs.members.Members.place_last.Goals as goal

pub move_all-requires : goal.move_all-requires
move_all-requires c =
    let m = c.args.self.now in
    let fit = places_fit m.r m.fronts.now m.backs.now c.args.places.now m.fit c.requires.placed in
    let long = seconds-long m.r m.fronts.now m.backs.now c.args.second.now c.requires.second in
    record { long = fit.equal; within = λ i h. omega (arith, fit.class_fits i h) }

pub returns : goal.returns
returns c =
    let m = c.args.self.now in
    c.move_all.ensures
    ∙ ap (λ (xs : List ℕ). moved_by c.args.second.now xs m.fronts.now) c.requires.placed
    ∙ places_are m.r m.fronts.now m.backs.now m.fit.equal c.args.second.now m.fit.moved_fits c.requires.second
