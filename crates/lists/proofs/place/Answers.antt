use Rattle.std.proofs.Common.{arith}
use Rattle.std.proofs.lemmas.Grind.{common_steps}
use Rattle.std.proofs.lemmas.Nat.{xor_lt}
use Rattle.lists.proofs.place.Goals as goal

pub displacement-requires-2 : goal.displacement-requires-2
displacement-requires-2 c = grind (arith, common_steps, xor_lt c.args.r)

pub returns-clause-within : goal.returns-clause-within
returns-clause-within c = grind (arith, common_steps, xor_lt c.args.r)
