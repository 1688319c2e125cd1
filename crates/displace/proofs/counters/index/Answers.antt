use Rattle.std.proofs.Common.{◌≡◌, ◌-◌, ◌%◌, ◌^◌, ap, ◌∙◌, mod-lt, arith, pow_pos, pow_mono}
use lib.Bits.{and_mask}
use lib.Bits.{bit_and}
use Rattle.displace.proofs.counters.index.Goals as goal

pub returns : goal.returns
returns c =
    let size = c.power-size.result in
    let w = c.args.w in
    let masked : bit_and c.args.x (size - 1) ≡ c.args.x % 2 ^ w =
    ap (λ n. bit_and c.args.x (n - 1)) c.power-size.ensures.value ∙ and_mask c.args.x w in
    let low = mod-lt c.args.x (pow_pos w) in
    record { value = omega arith; within = λ r h. let high = pow_mono {i = w} {j = r} h in omega arith }
