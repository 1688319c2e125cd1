use Rattle.std.proofs.Common.{◌≡◌, ◌+◌, length, arith}
use Rattle.std.proofs.lemmas.Grind.{common_steps}
use Rattle.varint.specs.Calls.{put_at}
use Rattle.varint.specs.Groups.{groups}
use Rattle.varint.proofs.Reading.{reads_written}
use Rattle.varint.proofs.write.Goals as goal

pub returns-clause-back : goal.returns-clause-back
returns-clause-back c =
    let all : c.loop-i.out ≡ put_at c.args.out.now c.args.at (groups c.args.n) = grind (arith, common_steps) in
    let end : c.saturating_add-end.result ≡ c.args.at + length (groups c.args.n) = omega arith in
    rw (all, end) (reads_written c.args.out.now c.args.at c.args.n (omega arith) (omega arith))
