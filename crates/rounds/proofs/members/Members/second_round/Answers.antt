use Rattle.std.proofs.Common.{◌≡◌, ℕ, ◌^◌, Bool, cond, is_ok, List, ◌++◌, drop, ap, ◌∙◌, arith}
use Rattle.displace.specs.Columns.{displacements}
use Rattle.rounds.specs.Halves.{seconds}
use Rattle.rounds.proofs.Carrying.{places_fit, seconds_are, sure, takes_seconds}
use Rattle.rounds.proofs.members.Members.second_round.Goals as goal

pub unwrap-requires : goal.unwrap-requires
unwrap-requires c =
    let m = c.args.self.now in
    let fit = places_fit m.r m.fronts.now m.backs.now c.args.places.now m.fit c.requires.placed in
    sure _ _ c.round.ensures.answer (record { fit = fit; out_long = c.requires.second; work_long = omega (arith, fit.equal) })

pub returns : goal.returns
returns c =
    let m = c.args.self.now in
    let fronts = m.fronts.now in
    let backs = m.backs.now in
    let rest = drop (2 ^ m.r) c.args.second.now in
    let done : c.round.new.out ≡ seconds m.r fronts backs ++ rest =
    c.round.ensures.after
    ∙ ap (λ (b : Bool). cond b (displacements m.r c.args.places.now fronts ++ rest) c.args.second.now) (ap is_ok c.unwrap.ensures)
    ∙ ap (λ (xs : List ℕ). displacements m.r xs fronts ++ rest) c.requires.placed
    ∙ ap (λ (ds : List ℕ). ds ++ rest) (seconds_are m.r fronts backs m.fit.equal) in
    record { begins = takes_seconds m.r fronts backs c.round.new.out rest done; after = done }
