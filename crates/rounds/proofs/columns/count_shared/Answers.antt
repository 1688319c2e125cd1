use Rattle.std.proofs.Common.{ℕ, ◌+◌, ◌<◌, length, get_or, set, sym, subst, arith, rules}
use Rattle.rounds.proofs.Sharing.{Counted, counted_none, counter_small, counted_more}
use Rattle.rounds.proofs.columns.count_shared.Goals as goal

pub loop-x-init : goal.loop-x-init
loop-x-init c = counted_none c.args.rows.now c.fill.new.self (search rules)

pub overflow_add-counters : goal.overflow_add-counters
overflow_add-counters c =
    let p = get_or c.args.rows.now c.loop-x.x-index 0 in
    let h : p < length c.loop-x.counters = omega (arith, c.requires.within c.loop-x.x-index (omega arith)) in
    omega (arith, counter_small c.args.rows.now c.loop-x.counters c.loop-x.x-index p c.loop-x.pairs c.requires.few h c.loop-x.invariant)

pub loop-x-preserved : goal.loop-x-preserved
loop-x-preserved c =
    let p = get_or c.args.rows.now c.loop-x.x-index 0 in
    let h : p < length c.loop-x.counters = omega (arith, c.requires.within c.loop-x.x-index (omega arith)) in
    subst (λ (n : ℕ). Counted c.args.rows.now (c.loop-x.x-index + 1) (set c.loop-x.counters p (get_or c.loop-x.counters p 0 + 1)) (c.loop-x.pairs + n))
    (sym c.from-pairs.ensures)
    (counted_more c.args.rows.now c.loop-x.counters c.loop-x.x-index c.loop-x.pairs (omega arith) c.requires.few h c.loop-x.invariant)
