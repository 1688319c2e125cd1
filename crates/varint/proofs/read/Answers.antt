use Rattle.varint.proofs.Reading.{form_read}
use Rattle.varint.proofs.read.Goals as goal

pub returns-clause-shortest : goal.returns-clause-shortest
returns-clause-shortest c = rw c.read_groups.ensures (form_read c.args.bytes.now c.args.at)
