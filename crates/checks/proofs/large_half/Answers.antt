use Rattle.std.proofs.Common.{sym, ap, ◌∙◌, arith}
use Rattle.std.proofs.lemmas.List.{length_push}
use Rattle.checks.specs.Checks.{refused}
use Rattle.checks.proofs.Rows.{row_turn, row_end}
use Rattle.checks.proofs.Searching.{large_start, large_front, large_back, large_more, large_end}
use Rattle.checks.proofs.large_half.Goals as goal

pub loop-position-init : goal.loop-position-init
loop-position-init c = large_start c.args.n c.args.fronts.now c.args.backs.now

pub returns-then-front-n : goal.returns-then-front-n
returns-then-front-n c =
    let at = row_turn c.args.fronts.now c.args.backs.now _ c.into_iter-position-iterator.result c.loop-position.position-iterator c.next.new.self _ c.loop-position.yielded_by _ c.in-Some.is c.next.ensures.steps (cc) (cc) (cc) in
    ap refused (sym (large_front c.args.n _ _ _ _ _ _ at (omega arith)) ∙ c.loop-position.invariant)

pub returns-then-back-n : goal.returns-then-back-n
returns-then-back-n c =
    let at = row_turn c.args.fronts.now c.args.backs.now _ c.into_iter-position-iterator.result c.loop-position.position-iterator c.next.new.self _ c.loop-position.yielded_by _ c.in-Some.is c.next.ensures.steps (cc) (cc) (cc) in
    ap refused (sym (large_back c.args.n _ _ _ _ _ _ at (omega arith) (omega arith)) ∙ c.loop-position.invariant)

pub loop-position-preserved : goal.loop-position-preserved
loop-position-preserved c =
    let at = row_turn c.args.fronts.now c.args.backs.now _ c.into_iter-position-iterator.result c.loop-position.position-iterator c.next.new.self _ c.loop-position.yielded_by _ c.in-Some.is c.next.ensures.steps (cc) (cc) (cc) in
    rw length_push (sym (large_more c.args.n _ _ _ _ _ _ at (omega arith) (omega arith)) ∙ c.loop-position.invariant)

pub returns : goal.returns
returns c =
    let end = row_end c.args.fronts.now c.args.backs.now _ c.into_iter-position-iterator.result c.loop-position.position-iterator c.next.new.self _ c.loop-position.yielded_by c.in-None.is c.next.ensures.steps (cc) (cc) (cc) in
    ap refused (sym (large_end c.args.n c.args.fronts.now c.args.backs.now _ (omega (arith, end))) ∙ c.loop-position.invariant)
