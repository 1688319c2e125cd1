use Rattle.std.proofs.Common.{arith}
use Rattle.varint.proofs.Forms.{fewest}
use Rattle.varint.proofs.len.Goals as goal

pub returns-clause-shortest : goal.returns-clause-shortest
returns-clause-shortest c = fewest c.args.n (omega arith)
