use Rattle.std.proofs.Common.{length, rules}
use Rattle.build.proofs.Promised.{uncounted, refused_code, made}
use Rattle.build.proofs.build.Goals as goal

pub returns-in_err-size : goal.returns-in_err-size
returns-in_err-size g c =
    let promised =
    uncounted g.C.Code.front_of g.C.Code.back_of c.args.r c.args.members.now c.args.first.now c.args.second.now c.args.slots.now (length c.args.work.now) c.from_residual.result c.in_err-size.field-0.0 (search rules) c.in_err-size.ensures.value in
    record { zero = search rules; built = promised.built; law = promised.law; order = promised.order }

pub returns-in_err-pairs : goal.returns-in_err-pairs
returns-in_err-pairs g c =
    let promised =
    refused_code g.C.Code.front_of g.C.Code.back_of c.args.r c.args.members.now c.args.first.now c.args.second.now c.args.slots.now (length c.args.work.now) c.in_ok-size.size c.in_ok-size.ensures.value
    c.build_parts.new.first c.build_parts.new.second c.build_parts.new.slots c.from_residual-in_err-pairs.result c.in_err-pairs.field-0.0 (search rules) c.in_err-pairs.ensures.answer c.in_err-pairs.ensures.first c.in_err-pairs.ensures.second c.in_err-pairs.ensures.slots in
    record { zero = search rules; built = promised.built; law = promised.law; order = promised.order }

pub returns : goal.returns
returns g c =
    let promised =
    made g.C.Code.front_of g.C.Code.back_of c.args.r c.args.members.now c.args.first.now c.args.second.now c.args.slots.now (length c.args.work.now) c.in_ok-size.size c.in_ok-size.ensures.value
    c.build_parts.new.first c.build_parts.new.second c.build_parts.new.slots c.in_ok-pairs.pairs c.in_ok-pairs.ensures.answer c.in_ok-pairs.ensures.first c.in_ok-pairs.ensures.second c.in_ok-pairs.ensures.slots in
    record { zero = search rules; built = promised.built; law = promised.law; order = promised.order }
