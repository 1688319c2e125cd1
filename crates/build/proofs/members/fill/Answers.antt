use Rattle.std.proofs.Common.{length, ◌<◌, rules, arith}
use Rattle.std.proofs.lemmas.List.{length_push}
use Rattle.std.proofs.lemmas.Slice.Zip.{zip_turn, zip_end}
use Rattle.build.proofs.Filling.{filled_more, filled_all}
use Rattle.build.proofs.members.fill.Goals as goal

pub offset_bounds-slots-place : goal.offset_bounds-slots-place
offset_bounds-slots-place g c =
    let at =
    zip_turn c.args.members.now c.args.places.now _ c.into_iter-member-iterator.result c.loop-member.member-iterator c.next.new.self _ (cc) (cc) c.loop-member.yielded_by _ c.in-Some.is c.next.ensures.steps in
    let within : c.in-Some.place.now < length c.args.slots.now = omega (arith, at.3 0, c.requires.within (length c.loop-member.yielded) at.1) in
    search rules

pub loop-member-preserved : goal.loop-member-preserved
loop-member-preserved g c =
    let at =
    zip_turn c.args.members.now c.args.places.now _ c.into_iter-member-iterator.result c.loop-member.member-iterator c.next.new.self _ (cc) (cc) c.loop-member.yielded_by _ c.in-Some.is c.next.ensures.steps in
    let more = filled_more c.args.places.now c.args.members.now (length c.loop-member.yielded) c.in-Some.place.now c.in-Some.member.now c.loop-member.slots at.1 at.0 (at.3 _) (at.2 _) in
    rw (length_push, c.from.ensures, more) c.loop-member.invariant

pub returns : goal.returns
returns g c =
    let end =
    zip_end c.args.members.now c.args.places.now _ c.into_iter-member-iterator.result c.loop-member.member-iterator c.next.new.self _ (cc) (cc) c.loop-member.yielded_by c.in-None.is c.next.ensures.steps in
    rw (filled_all c.args.places.now c.args.members.now (length c.loop-member.yielded) c.loop-member.slots (omega (arith, end, c.requires.long))) at c.loop-member.invariant
