use Rattle.std.proofs.Common.{rules, ◌≡◌, ◌-◌, ◌^◌, true, length, take, drop, sym, refl, ◌∙◌, arith}
use Rattle.std.proofs.lemmas.List.{set-get_or, take_rest}
use Rattle.displace.specs.Columns.{group_of}
use Rattle.displace.proofs.Passing.{passes_none, passes_room, passes_take, passes_skip}
use Rattle.displace.proofs.classes.pass.Goals as goal
use Rattle.displace.proofs.classes.pass.Goals.{then-test, else-test}

pub loop-v-init : goal.loop-v-init
loop-v-init g c =
    let columns = c.args.chains.now.columns in
    record {
      same = refl;
      long = refl;
      passes = λ takes answers. passes_none takes columns.r columns.class.now columns.moved.now c.args.counters.now.counts.now c.args.out.now;
    }

pub settle-requires : goal.settle-requires
settle-requires g c =
    let columns = c.args.chains.now.columns in
    let group = c.gather-start.new.group in
    let start = c.gather-start.result in
    let members = take (length group - start) (drop start group) in
    let gathered : members ≡ group_of c.loop-v.v columns.class.now columns.moved.now = rw take_rest c.gather-start.ensures.gathered in
    let takes = c.requires.answers.0 in
    let answers = c.requires.answers.1 in
    let e : takes (length members) ≡ true = sym (answers _ _ (search rules) c.test.ensures) ∙ c.if-test.true in
    rw (c.loop-v.invariant.same, c.requires.same)
    (passes_room takes columns.r columns.class.now columns.moved.now c.args.counters.now.counts.now c.args.out.now c.loop-v.v c.loop-v.counters.counts.now c.loop-v.out
    members gathered (c.loop-v.invariant.passes takes answers) e c.requires.room)

pub loop-v-preserved : goal.loop-v-preserved
loop-v-preserved g c =
    let columns = c.args.chains.now.columns in
    let group = c.gather-start.new.group in
    let start = c.gather-start.result in
    let members = take (length group - start) (drop start group) in
    let gathered : members ≡ group_of c.loop-v.v columns.class.now columns.moved.now = rw take_rest c.gather-start.ensures.gathered in
    let r : c.loop-v.counters.r ≡ columns.r = c.loop-v.invariant.same ∙ c.requires.same in
    record {
      same = elim c.if-test.branch [ then-test w ↦ rw (w.counters-is, w.settle.ensures.same) c.loop-v.invariant.same | else-test w ↦ rw w.counters-is c.loop-v.invariant.same ];
      long = search rules;
      passes =
          λ takes answers.
          let answer : c.test.result ≡ takes (length members) = answers _ _ (search rules) c.test.ensures in
          elim c.if-test.branch [
            | then-test w ↦
                rw (w.counters-is, w.out-is)
                (passes_take takes columns.r columns.class.now columns.moved.now c.args.counters.now.counts.now c.args.out.now c.loop-v.v c.loop-v.counters.counts.now c.loop-v.out
                members gathered (c.loop-v.invariant.passes takes answers) w.settle.new.self.counts.now w.settle.result (sym answer ∙ w.if-test.true) (omega arith)
                (rw r at w.settle.ensures.settled))
            | else-test w ↦
                rw (w.counters-is, w.out-is, set-get_or)
                (passes_skip takes columns.r columns.class.now columns.moved.now c.args.counters.now.counts.now c.args.out.now c.loop-v.v c.loop-v.counters.counts.now c.loop-v.out
                members gathered (c.loop-v.invariant.passes takes answers) (sym answer ∙ w.if-test.false))
          ];
    }

pub returns-clause-taken : goal.returns-clause-taken
returns-clause-taken g c =
    let all : c.loop-v.v ≡ 2 ^ c.args.chains.now.columns.r = omega arith in
    λ takes cs answers. rw all at ((c.loop-v.invariant.passes takes answers).taken_on cs)
