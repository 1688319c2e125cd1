use Rattle.std.proofs.Common.{◌≡◌, ◌+◌, ◌≤◌, length}
use Rattle.std.specs.Iterator.Adapters.{enumerate_source, enumerate_count}
use Rattle.varint.specs.Calls.{put_at}
use Rattle.varint.specs.Groups.{groups, groups_left}
use Rattle.varint.proofs.write.Given as goal

abbrev pub invariant-loop-i : goal.invariant-loop-i
invariant-loop-i l = record {
  room : l.at + enumerate_count l.i-iterator + length (groups_left (enumerate_source l.i-iterator)) ≤ length l.initial.out;
  whole : put_at l.out (l.at + enumerate_count l.i-iterator) (groups_left (enumerate_source l.i-iterator)) ≡ put_at l.initial.out l.at (groups l.n);
}
