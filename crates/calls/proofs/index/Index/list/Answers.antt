use Rattle.std.proofs.Common.{rules, arith, ◌^◌, ◌-◌}
use Rattle.std.proofs.lemmas.Iterator.{YieldsList-from_slice}
use Rattle.std.proofs.lemmas.Iterator.Adapters.{fits_from_length, at_most_from_yields_List}
use Rattle.calls.proofs.index.Index.list.Goals as goal

-- each slot counts 1 at most
pub sum-full-requires-clause-fits : goal.sum-full-requires-clause-fits
sum-full-requires-clause-fits g c =
    fits_from_length _ _ (2 ^ 64 - 1) (2 ^ 64) (at_most_from_yields_List (YieldsList-from_slice c.iter.result.rest.now cc) (search rules)) c.map.ensures.closure (omega arith) (λ x r q k. search rules)
