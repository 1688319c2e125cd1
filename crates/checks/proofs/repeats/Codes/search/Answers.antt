use Rattle.std.proofs.Common.{ℕ, Option, sym, ap, ◌∙◌, rules, arith}
use Rattle.std.specs.Option.{option_map}
use Rattle.std.proofs.lemmas.List.{length_push}
use Rattle.fault.specs.declared.Fault.TheVariants.{RepeatedCode}
use Rattle.checks.specs.Checks.{refused}
use Rattle.checks.proofs.Rows.{row_turn, row_end}
use Rattle.checks.proofs.Searching.{chain_empty, search_start, search_end, first_row, next_row, row_found, rows_end}
use Rattle.checks.proofs.repeats.Codes.search.Goals as goal

pub loop-position-init : goal.loop-position-init
loop-position-init c = (search_start c.args.self.now.fronts.now c.args.self.now.backs.now c.args.self.now.equal, chain_empty c.args.self.now.fronts.now c.args.self.now.backs.now c.fill.new.self c.args.links.now (search rules))

pub loop-row-init : goal.loop-row-init
loop-row-init c =
    let at =
    row_turn c.args.self.now.fronts.now c.args.self.now.backs.now _ c.into_iter-position-iterator.result c.loop-position.position-iterator c.next.new.self _ c.loop-position.yielded_by _ c.in-Some.is c.next.ensures.steps (cc) (cc) (cc) in
    first_row c.args.self.now.fronts.now c.args.self.now.backs.now c.args.self.now.equal c.loop-position.heads c.loop-position.links _ _ _ _ c.bucket-v.result at c.loop-position.invariant.1 c.bucket-v.ensures.within c.bucket-v.ensures.value

pub loop-row-preserved : goal.loop-row-preserved
loop-row-preserved c =
    let at =
    row_turn c.args.self.now.fronts.now c.args.self.now.backs.now _ c.into_iter-position-iterator.result c.loop-position.position-iterator c.next.new.self _ c.loop-position.yielded_by _ c.in-Some.is c.next.ensures.steps (cc) (cc) (cc) in
    next_row c.args.self.now.fronts.now c.args.self.now.backs.now c.args.self.now.equal c.loop-position.heads c.loop-position.links _ _ _ _ c.bucket-v.result at c.loop-position.invariant.1 c.bucket-v.ensures.within c.bucket-v.ensures.value
    c.loop-row.row c.loop-row.invariant.1 c.loop-row-test.true (sym c.stands_at.ensures ∙ c.if-stands_at.false)

pub loop-position-preserved : goal.loop-position-preserved
loop-position-preserved c =
    let at =
    row_turn c.args.self.now.fronts.now c.args.self.now.backs.now _ c.into_iter-position-iterator.result c.loop-position.position-iterator c.next.new.self _ c.loop-position.yielded_by _ c.in-Some.is c.next.ensures.steps (cc) (cc) (cc) in
    let end =
    rows_end c.args.self.now.fronts.now c.args.self.now.backs.now c.args.self.now.equal c.loop-position.heads c.loop-position.links _ _ _ _ c.bucket-v.result at c.loop-position.invariant.1 c.bucket-v.ensures.within c.bucket-v.ensures.value
    c.loop-row.row c.loop-row.invariant.1 (omega arith) (omega arith) in
    rw length_push (end.0 ∙ c.loop-position.invariant.0, end.1)

pub returns-then-stands_at : goal.returns-then-stands_at
returns-then-stands_at c =
    let at =
    row_turn c.args.self.now.fronts.now c.args.self.now.backs.now _ c.into_iter-position-iterator.result c.loop-position.position-iterator c.next.new.self _ c.loop-position.yielded_by _ c.in-Some.is c.next.ensures.steps (cc) (cc) (cc) in
    let found =
    row_found c.args.self.now.fronts.now c.args.self.now.backs.now c.args.self.now.equal c.loop-position.heads c.loop-position.links _ _ _ _ c.bucket-v.result at c.loop-position.invariant.1 c.bucket-v.ensures.within c.bucket-v.ensures.value
    c.loop-row.row c.loop-row.invariant.1 c.loop-row-test.true (sym c.stands_at.ensures ∙ c.if-stands_at.true) in
    ap (λ (o : Option ℕ). refused (option_map (λ x. RepeatedCode x) o)) (sym found ∙ c.loop-position.invariant.0)

pub returns-in-None : goal.returns-in-None
returns-in-None c =
    let end =
    row_end c.args.self.now.fronts.now c.args.self.now.backs.now _ c.into_iter-position-iterator.result c.loop-position.position-iterator c.next.new.self _ c.loop-position.yielded_by c.in-None.is c.next.ensures.steps (cc) (cc) (cc) in
    ap (λ (o : Option ℕ). refused (option_map (λ x. RepeatedCode x) o))
    (sym (search_end c.args.self.now.fronts.now c.args.self.now.backs.now c.args.self.now.equal _ (omega (arith, end))) ∙ c.loop-position.invariant.0)
