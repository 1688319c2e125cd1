use Rattle.std.proofs.Common.{length, rules, arith}
use Rattle.build.proofs.Crossing.{crossed}
use Rattle.build.proofs.parts.build_parts.Goals as goal

pub set_lists-pairs-requires : goal.set_lists-pairs-requires
set_lists-pairs-requires g c =
    let cross =
    crossed g.C.Code.front_of g.C.Code.back_of c.args.r c.args.size c.args.members.now c.write_halves.new.fronts c.write_halves.new.backs c.requires.accepted.size c.write_halves.ensures.fronts c.write_halves.ensures.backs c.requires.accepted.high c.requires.few c.in_ok-check.ensures in
    record {
      ready = record {
        round = record { fit = cross.fit; out_long = omega arith; work_long = search rules };
        second_long = omega arith;
        places_long = omega arith;
      };
      places = search rules;
    }

pub fill-requires : goal.fill-requires
fill-requires g c =
    let cross =
    crossed g.C.Code.front_of g.C.Code.back_of c.args.r c.args.size c.args.members.now c.write_halves.new.fronts c.write_halves.new.backs c.requires.accepted.size c.write_halves.ensures.fronts c.write_halves.ensures.backs c.requires.accepted.high c.requires.few c.in_ok-check.ensures in
    record {
      long = search rules;
      within = rw c.set_lists-pairs.ensures.places (cross.within (length c.empty.new.slots) (omega arith));
    }

pub returns : goal.returns
returns g c =
    let cross =
    crossed g.C.Code.front_of g.C.Code.back_of c.args.r c.args.size c.args.members.now c.write_halves.new.fronts c.write_halves.new.backs c.requires.accepted.size c.write_halves.ensures.fronts c.write_halves.ensures.backs c.requires.accepted.high c.requires.few c.in_ok-check.ensures in
    record {
      answer = rw c.set_lists-pairs.ensures.pairs cross.answer;
      first = rw c.set_lists-pairs.ensures.first (cross.first_is c.args.first.now);
      second = rw c.set_lists-pairs.ensures.second (cross.second_is c.args.second.now);
      slots = rw (c.fill.ensures, c.set_lists-pairs.ensures.places, c.empty.ensures) (cross.slots_are c.args.slots.now);
    }
