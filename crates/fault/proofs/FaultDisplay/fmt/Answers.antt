-- A list goes by its number.
use Rattle.std.proofs.Common.{◌≡◌}
use Rattle.std.proofs.lemmas.List.{append-nil}
use Rattle.std.specs.Prelude.{decimal}
use Rattle.fault.proofs.Texts.{short_list_is, large_displacement_is}
use Rattle.fault.specs.Table.{list_part, displacements_part}
use Rattle.fault.proofs.FaultDisplay.fmt.Goals as goal

pub returns-in-ShortList-clause-writes : goal.returns-in-ShortList-clause-writes
returns-in-ShortList-clause-writes g c =
    let number : c.part.result ≡ list_part c.in-ShortList.list = rw c.in-ShortList.is at c.part.ensures in
    rw (c.in-ShortList.is, short_list_is c.in-ShortList.list _, ← number) c.write-in-ShortList.ensures.writes

pub returns-in-LargeDisplacement-clause-writes : goal.returns-in-LargeDisplacement-clause-writes
returns-in-LargeDisplacement-clause-writes g c =
    let number : c.part-in-LargeDisplacement.result ≡ displacements_part c.in-LargeDisplacement.list = rw c.in-LargeDisplacement.is at c.part-in-LargeDisplacement.ensures in
    rw (c.in-LargeDisplacement.is, append-nil (decimal c.in-LargeDisplacement.index), large_displacement_is c.in-LargeDisplacement.list _, ← number) c.write-in-LargeDisplacement.ensures.writes
