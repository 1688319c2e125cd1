use Rattle.std.proofs.Common.{◌≡◌, ◌*◌, ◌^◌, ◌<◌, ◌≤◌}
use Rattle.varint.specs.Width.{more_groups}
use Rattle.varint.specs.Calls.{read_at}
use Rattle.varint.proofs.Steps.{ahead}
use Rattle.varint.proofs.read_groups.Given as goal

abbrev pub invariant-loop-earlier : goal.invariant-loop-earlier
invariant-loop-earlier l = record {
  few : l.earlier ≤ more_groups;
  low : l.value < 2 ^ (7 * l.earlier);
  ahead : ahead l.bytes l.at l.groups l.earlier l.value ≡ read_at l.bytes l.at;
}
