use Rattle.std.proofs.Common.{ℕ, List, get_or, ap, arith}
use Rattle.rounds.proofs.Carrying.{first_placed, firsts-long, places_fit}
use Rattle.rounds.proofs.members.Members.place_first.Goals as goal

pub move_all-requires-clause-within : goal.move_all-requires-clause-within
move_all-requires-clause-within c =
    let m = c.args.self.now in
    let long = firsts-long m.r m.fronts.now m.backs.now c.args.first.now c.requires.first in
    λ i h. omega (arith, ap (λ (xs : List ℕ). get_or xs i 0) c.copy_from_slice.ensures.after, m.fit.class_fits i (omega arith))

pub returns : goal.returns
returns c =
    let m = c.args.self.now in
    let here =
    first_placed m.r m.fronts.now m.backs.now c.args.first.now c.copy_from_slice.new.self c.move_all.new.classes m.fit c.requires.first c.copy_from_slice.ensures.after
    c.move_all.ensures in
    record { placed = here; within = (places_fit m.r m.fronts.now m.backs.now c.move_all.new.classes m.fit here).class_fits }
