use Rattle.std.proofs.Common.{◌≡◌}
use Rattle.build.specs.Steps.{column_to}
use Rattle.build.proofs.members.write_halves.Given as goal

abbrev pub invariant-loop-i : goal.invariant-loop-i
invariant-loop-i g l =
    (l.fronts ≡ column_to g.C.Code.front_of l.members l.i l.initial.fronts)
    × (l.backs ≡ column_to g.C.Code.back_of l.members l.i l.initial.backs)
