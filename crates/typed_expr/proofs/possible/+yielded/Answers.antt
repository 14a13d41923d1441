use Rattle.std.proofs.Common.{◌≡◌, ◌+◌, ◌↔◌, ℕ, List, Bool, not, Contains, Option, Some, None, Result, Ok, IsTrue, refl, sym, subst, true, false}
use Rattle.std.specs.Option.{is_some}
use borrow.Author.Count.{falls}
use Rattle.domains.specs.declared.Value.{Value}
use Rattle.domains.specs.declared.Value.TheVariants.{Truth}
use Rattle.typed_expr.specs.Sets.{Gathers}
use Rattle.typed_expr.specs.YieldsInside.{facts_of}
use Rattle.typed_expr.specs.Evaluating.{Evaluates, compared, right_stopped, TellsAnswer, Tallies, Steps, stepped, operand_stopped, Folds, Sums, Chooses, Joins, SomeRelated, IsNextOperand}
use Rattle.typed_expr.specs.declared.expr.Expr.{Expr, out-Expr}
use Rattle.typed_expr.specs.declared.expr.Expr as plain
use Rattle.typed_expr.specs.declared.value_set.Stop.{Stop}
use Rattle.typed_expr.proofs.Gathering.{err-same, keeps-nothing}
use Rattle.typed_expr.proofs.Arms as arm
use Rattle.typed_expr.proofs.Forms as form
use Rattle.typed_expr.proofs.SoFar as loop
use Rattle.typed_expr.proofs.Loops.{wide-here}
use Rattle.typed_expr.proofs.Stopping.{fold-stops-early, sum-stops-early}
use Rattle.typed_expr.proofs.Shrinking as smaller
use Rattle.typed_expr.proofs.possible.+yielded.Goals as goal

pub yielded-returns-in-Constant : goal.yielded-returns-in-Constant
yielded-returns-in-Constant g t c =
    let facts = facts_of (g.E.Env.facts_at c.args.env.now) in
    arm.constant-arm facts c.args.most c.gathered.result c.args.expr.now c.in-Constant.v c.in-Constant.is
    c.gathered.ensures

pub yielded-returns-in-Variable : goal.yielded-returns-in-Variable
yielded-returns-in-Variable g t c =
    let facts = facts_of (g.E.Env.facts_at c.args.env.now) in
    let found =
    subst
    (λ (l : List Value). Gathers c.args.most c.gathered-in-Variable.result (Contains l)) c.facts.ensures
    c.gathered-in-Variable.ensures in
    arm.variable-arm facts c.args.most c.gathered-in-Variable.result c.args.expr.now c.in-Variable.x c.in-Variable.is
    found

pub yielded-returns-in-Sum : goal.yielded-returns-in-Sum
yielded-returns-in-Sum g t c =
    let facts = facts_of (g.E.Env.facts_at c.args.env.now) in
    arm.sum-arm facts c.args.most c.summed.result c.args.expr.now c.deref-in-Sum.result.now c.in-Sum.parts c.in-Sum.is
    c.deref-in-Sum.ensures.value c.summed.ensures

pub yielded-returns-in-Product : goal.yielded-returns-in-Product
yielded-returns-in-Product g t c =
    let facts = facts_of (g.E.Env.facts_at c.args.env.now) in
    arm.product-arm facts c.args.most c.folded.result c.args.expr.now c.deref-in-Product.result.now c.in-Product.es
    c.in-Product.is c.deref-in-Product.ensures.value c.folded.ensures

pub yielded-returns-in-Least : goal.yielded-returns-in-Least
yielded-returns-in-Least g t c =
    let facts = facts_of (g.E.Env.facts_at c.args.env.now) in
    arm.least-arm facts c.args.most c.folded-in-Least.result c.args.expr.now c.deref-in-Least.result.now c.in-Least.es
    c.in-Least.is c.deref-in-Least.ensures.value c.folded-in-Least.ensures

pub yielded-returns-in-Greatest : goal.yielded-returns-in-Greatest
yielded-returns-in-Greatest g t c =
    let facts = facts_of (g.E.Env.facts_at c.args.env.now) in
    arm.greatest-arm facts c.args.most c.folded-in-Greatest.result c.args.expr.now c.deref-in-Greatest.result.now
    c.in-Greatest.es c.in-Greatest.is c.deref-in-Greatest.ensures.value c.folded-in-Greatest.ensures

pub yielded-returns-in-Count : goal.yielded-returns-in-Count
yielded-returns-in-Count g t c =
    let facts = facts_of (g.E.Env.facts_at c.args.env.now) in
    arm.count-arm facts c.args.most c.folded-in-Count.result c.args.expr.now c.deref-in-Count.result.now c.in-Count.es
    c.in-Count.is c.deref-in-Count.ensures.value c.folded-in-Count.ensures

pub yielded-returns-in_ok-can_be_true-in-Not : goal.yielded-returns-in_ok-can_be_true-in-Not
yielded-returns-in_ok-can_be_true-in-Not g t c =
    let facts = facts_of (g.E.Env.facts_at c.args.env.now) in
    arm.not-arm facts c.args.most c.truth_set.result c.args.expr.now c.deref.result.now c.in-Not.a
    c.in_ok-can_be_true-in-Not.can_be_true c.in_ok-can_be_true-in-Not.can_be_false c.in-Not.is c.deref.ensures
    c.in_ok-can_be_true-in-Not.ensures c.truth_set.ensures

pub yielded-returns-in_err-can_be_true-in-Not : goal.yielded-returns-in_err-can_be_true-in-Not
yielded-returns-in_err-can_be_true-in-Not g t c =
    let facts = facts_of (g.E.Env.facts_at c.args.env.now) in
    err-same
    (λ (r : Result (List Value) Stop). Evaluates facts c.args.most r (out-Expr g.row.V.Denot c.args.expr.now))
    c.from_residual.result c.in_err-can_be_true-in-Not.field-0.0 c.from_residual.ensures.1
    (arm.not-stop facts c.args.most c.in_err-can_be_true-in-Not.field-0.0 c.args.expr.now c.deref.result.now c.in-Not.a
    c.in-Not.is c.deref.ensures c.in_err-can_be_true-in-Not.ensures)

pub yielded-returns-in_ok-one_false-in-All : goal.yielded-returns-in_ok-one_false-in-All
yielded-returns-in_ok-one_false-in-All g t c =
    let facts = facts_of (g.E.Env.facts_at c.args.env.now) in
    arm.all-arm facts c.args.most c.truth_set-in-All.result c.args.expr.now c.deref-in-All.result.now c.in-All.es
    c.in_ok-one_false-in-All.one_false c.in_ok-one_false-in-All.all_true c.in-All.is c.deref-in-All.ensures.value
    c.in_ok-one_false-in-All.ensures c.truth_set-in-All.ensures

pub yielded-returns-in_ok-one_true-in-Any : goal.yielded-returns-in_ok-one_true-in-Any
yielded-returns-in_ok-one_true-in-Any g t c =
    let facts = facts_of (g.E.Env.facts_at c.args.env.now) in
    arm.any-arm facts c.args.most c.truth_set-in-Any.result c.args.expr.now c.deref-in-Any.result.now c.in-Any.es
    c.in_ok-one_true-in-Any.one_true c.in_ok-one_true-in-Any.all_false c.in-Any.is c.deref-in-Any.ensures.value
    c.in_ok-one_true-in-Any.ensures c.truth_set-in-Any.ensures

pub yielded-returns-in_err-one_false-in-All : goal.yielded-returns-in_err-one_false-in-All
yielded-returns-in_err-one_false-in-All g t c =
    let facts = facts_of (g.E.Env.facts_at c.args.env.now) in
    err-same
    (λ (r : Result (List Value) Stop). Evaluates facts c.args.most r (out-Expr g.row.V.Denot c.args.expr.now))
    c.from_residual-in_err-one_false-in-All.result c.in_err-one_false-in-All.field-0.0
    c.from_residual-in_err-one_false-in-All.ensures.1
    (arm.all-stop facts c.args.most c.in_err-one_false-in-All.field-0.0 c.args.expr.now c.deref-in-All.result.now
    c.in-All.es c.in-All.is c.deref-in-All.ensures.value c.in_err-one_false-in-All.ensures)

pub yielded-returns-in_err-one_true-in-Any : goal.yielded-returns-in_err-one_true-in-Any
yielded-returns-in_err-one_true-in-Any g t c =
    let facts = facts_of (g.E.Env.facts_at c.args.env.now) in
    err-same
    (λ (r : Result (List Value) Stop). Evaluates facts c.args.most r (out-Expr g.row.V.Denot c.args.expr.now))
    c.from_residual-in_err-one_true-in-Any.result c.in_err-one_true-in-Any.field-0.0
    c.from_residual-in_err-one_true-in-Any.ensures.1
    (arm.any-stop facts c.args.most c.in_err-one_true-in-Any.field-0.0 c.args.expr.now c.deref-in-Any.result.now
    c.in-Any.es c.in-Any.is c.deref-in-Any.ensures.value c.in_err-one_true-in-Any.ensures)

pub yielded-returns-in_err-left-in-Compare : goal.yielded-returns-in_err-left-in-Compare
yielded-returns-in_err-left-in-Compare g t c =
    let facts = facts_of (g.E.Env.facts_at c.args.env.now) in
    err-same
    (λ (r : Result (List Value) Stop). Evaluates facts c.args.most r (out-Expr g.row.V.Denot c.args.expr.now))
    c.from_residual-in_err-left-in-Compare.result c.in_err-left-in-Compare.field-0.0
    c.from_residual-in_err-left-in-Compare.ensures.1
    (arm.left-stop facts c.args.most c.in_err-left-in-Compare.field-0.0 c.args.expr.now c.deref-in-Compare.result.now
    c.in-Compare.relation c.in-Compare.a c.in-Compare.b c.in-Compare.is c.deref-in-Compare.ensures
    c.in_err-left-in-Compare.ensures)

pub yielded-returns-in_err-set-in-Choose : goal.yielded-returns-in_err-set-in-Choose
yielded-returns-in_err-set-in-Choose g t c =
    let facts = facts_of (g.E.Env.facts_at c.args.env.now) in
    err-same
    (λ (r : Result (List Value) Stop). Evaluates facts c.args.most r (out-Expr g.row.V.Denot c.args.expr.now))
    c.from_residual-in_err-set-in-Choose.result c.in_err-set-in-Choose.field-0.0
    c.from_residual-in_err-set-in-Choose.ensures.1
    (arm.cases-stop facts c.args.most c.in_err-set-in-Choose.field-0.0 c.args.expr.now c.deref-in-Choose.result.now
    c.in-Choose.cases c.in-Choose.other c.in-Choose.is c.deref-in-Choose.ensures.value
    c.in_err-set-in-Choose.ensures)

pub tally-returns-in_err-other : goal.tally-returns-in_err-other
tally-returns-in_err-other g t c =
    let facts = facts_of (g.E.Env.facts_at c.args.env.now) in
    err-same
    (λ (r : Result (Bool × Bool) Stop). Tallies facts c.args.most c.args.b r c.args.es.now) c.from_residual.result
    c.in_err-other.field-0.0 c.from_residual.ensures.1
    (wide-here facts c.args.most c.args.es.now c.loop-e.e-index c.e-item.result c.in_err-other.field-0.0
    c.loop-e-test.true c.e-item.is c.in_err-other.ensures)

pub tally-loop-e-init : goal.tally-loop-e-init
tally-loop-e-init g t c =
    let facts = facts_of (g.E.Env.facts_at c.args.env.now) in
    loop.tally-begins facts c.args.most c.args.b c.args.es.now

pub tally-loop-e-preserved : goal.tally-loop-e-preserved
tally-loop-e-preserved g t c =
    let facts = facts_of (g.E.Env.facts_at c.args.env.now) in
    loop.tally-goes-on facts c.args.most c.args.b c.loop-e.one_other c.loop-e.each c.either-one_other.result
    c.both-each.result c.in_ok-other.other c.in_ok-other.this c.args.es.now c.loop-e.e-index c.e-item.result
    c.loop-e-test.true c.e-item.is c.loop-e.invariant c.in_ok-other.ensures
    c.either-one_other.ensures c.both-each.ensures

pub tally-returns-then-is_none : goal.tally-returns-then-is_none
tally-returns-then-is_none g t c =
    let facts = facts_of (g.E.Env.facts_at c.args.env.now) in
    let next =
    loop.tally-goes-on facts c.args.most c.args.b c.loop-e.one_other c.loop-e.each c.either-one_other.result
    c.both-each.result c.in_ok-other.other c.in_ok-other.this c.args.es.now c.loop-e.e-index c.e-item.result
    c.loop-e-test.true c.e-item.is c.loop-e.invariant c.in_ok-other.ensures
    c.either-one_other.ensures c.both-each.ensures in
    loop.tally-stops-early facts c.args.most c.args.b c.either-one_other.result c.both-each.result c.args.es.now
    (c.loop-e.e-index + 1) c.if-one_other.true c.if-not-each.true
    (loop.none-there _ c.is_none.result c.is_none.ensures c.if-is_none.true) next

-- what a variable yields, as its facts have it
told-of-facts : {V : Type 0} (values_of : V → List Value) (most : Option ℕ) (e : Expr V) (x : V) (values : List Value)
    (b other same : Bool) → is_some most ≡ false → e ≡ plain.Variable x → values ≡ values_of x
    → IsTrue other ↔ Contains values (Truth (not b)) → IsTrue same ↔ Contains values (Truth b)
    → TellsAnswer (facts_of values_of) most b (Ok (other, same)) (out-Expr V e)
told-of-facts {V} values_of None e x values b other same none is at p q =
    let facts = facts_of values_of in
    loop.tell-of-set facts None b other same values (out-Expr V e)
    (arm.variable-arm facts None (Ok values) e x is (
      record {
        sound = λ v m. subst (λ (z : List Value). Contains z v) at m;
        complete = λ v m. subst (λ (z : List Value). Contains z v) (sym at) m;
      },
      tt,
    )) p q
told-of-facts values_of (Some n) e x values b other same none is at p q = cc

pub truths-returns-in-Variable : goal.truths-returns-in-Variable
truths-returns-in-Variable g t c =
    told-of-facts (g.E.Env.facts_at c.args.env.now) c.args.most c.args.e.now c.in-Variable.x c.facts-facts.result.now
    c.args.b c.has_value.result c.has_value-in-Variable.result
    (loop.none-there _ c.is_none.result c.is_none.ensures c.if-is_none.true) c.in-Variable.is c.facts-facts.ensures
    c.has_value.ensures c.has_value-in-Variable.ensures

pub folded-returns-in_err-so_far : goal.folded-returns-in_err-so_far
folded-returns-in_err-so_far g t c =
    let facts = facts_of (g.E.Env.facts_at c.args.env.now) in
    err-same
    (λ (r : Result (List Value) Stop). Folds facts c.args.most c.args.step r c.args.es.now) c.from_residual.result
    c.in_err-so_far.field-0.0 c.from_residual.ensures.1
    (loop.fold-begins-stop facts c.args.most c.args.step c.args.es.now c.start_value.result c.in_err-so_far.field-0.0
    c.start_value.ensures c.in_err-so_far.ensures)

pub folded-loop-e-init : goal.folded-loop-e-init
folded-loop-e-init g t c =
    let facts = facts_of (g.E.Env.facts_at c.args.env.now) in
    loop.fold-begins facts c.args.most c.args.step c.args.es.now c.start_value.result c.in_ok-so_far.so_far
    c.start_value.ensures c.in_ok-so_far.ensures

pub folded-loop-e-preserved : goal.folded-loop-e-preserved
folded-loop-e-preserved g t c =
    let facts = facts_of (g.E.Env.facts_at c.args.env.now) in
    loop.fold-steps facts c.args.most c.args.step c.loop-e.first c.args.es.now c.loop-e.e-index c.e-item.result
    c.loop-e.so_far c.in_ok-more.more c.loop-e-test.true c.e-item.is c.loop-e.invariant c.in_ok-more.ensures

pub folded-returns-then-is_none : goal.folded-returns-then-is_none
folded-returns-then-is_none g t c =
    let facts = facts_of (g.E.Env.facts_at c.args.env.now) in
    let next =
    loop.fold-steps facts c.args.most c.args.step c.loop-e.first c.args.es.now c.loop-e.e-index c.e-item.result
    c.loop-e.so_far c.in_ok-more.more c.loop-e-test.true c.e-item.is c.loop-e.invariant c.in_ok-more.ensures in
    fold-stops-early facts c.args.most c.args.step false c.args.es.now (c.loop-e.e-index + 1) c.in_ok-more.more
    (c.is_empty.ensures c.if-is_empty.true)
    (loop.none-there _ c.is_none.result c.is_none.ensures c.if-is_none.true) next

pub folded-returns-in_err-more : goal.folded-returns-in_err-more
folded-returns-in_err-more g t c =
    let facts = facts_of (g.E.Env.facts_at c.args.env.now) in
    err-same
    (λ (r : Result (List Value) Stop). Folds facts c.args.most c.args.step r c.args.es.now)
    c.from_residual-in_err-more.result c.in_err-more.field-0.0 c.from_residual-in_err-more.ensures.1
    (loop.fold-stops facts c.args.most c.args.step c.loop-e.first c.args.es.now c.loop-e.e-index c.e-item.result
    c.loop-e.so_far c.in_err-more.field-0.0 c.loop-e-test.true c.e-item.is c.loop-e.invariant c.in_err-more.ensures)

pub folded-returns : goal.folded-returns
folded-returns g t c =
    let facts = facts_of (g.E.Env.facts_at c.args.env.now) in
    loop.fold-ends facts c.args.most c.args.step c.loop-e.first c.args.es.now c.loop-e.e-index c.loop-e.so_far
    c.loop-e-test.false c.loop-e.invariant

pub summed-returns-in_err-so_far : goal.summed-returns-in_err-so_far
summed-returns-in_err-so_far g t c =
    let facts = facts_of (g.E.Env.facts_at c.args.env.now) in
    err-same
    (λ (r : Result (List Value) Stop). Sums facts c.args.most r c.args.parts.now) c.from_residual.result
    c.in_err-so_far.field-0.0 c.from_residual.ensures.1
    (loop.sum-begins-stop facts c.args.most c.args.parts.now _ c.in_err-so_far.field-0.0 refl c.in_err-so_far.ensures)

pub summed-loop-plus-init : goal.summed-loop-plus-init
summed-loop-plus-init g t c =
    let facts = facts_of (g.E.Env.facts_at c.args.env.now) in
    loop.sum-begins facts c.args.most c.args.parts.now _ c.in_ok-so_far.so_far refl c.in_ok-so_far.ensures

pub summed-loop-plus-preserved : goal.summed-loop-plus-preserved
summed-loop-plus-preserved g t c =
    let facts = facts_of (g.E.Env.facts_at c.args.env.now) in
    loop.sum-steps facts c.args.most c.args.parts.now c.loop-plus.plus-index c.loop-plus-item.result
    c.loop-plus.so_far c.in_ok-more.more c.loop-plus-test.true c.loop-plus-item.is c.loop-plus.invariant
    c.in_ok-more.ensures

pub summed-returns-then-is_none : goal.summed-returns-then-is_none
summed-returns-then-is_none g t c =
    let facts = facts_of (g.E.Env.facts_at c.args.env.now) in
    let next =
    loop.sum-steps facts c.args.most c.args.parts.now c.loop-plus.plus-index c.loop-plus-item.result
    c.loop-plus.so_far c.in_ok-more.more c.loop-plus-test.true c.loop-plus-item.is c.loop-plus.invariant
    c.in_ok-more.ensures in
    sum-stops-early facts c.args.most c.args.parts.now (c.loop-plus.plus-index + 1) c.in_ok-more.more
    (c.is_empty.ensures c.if-is_empty.true)
    (loop.none-there _ c.is_none.result c.is_none.ensures c.if-is_none.true) next

pub summed-returns-in_err-more : goal.summed-returns-in_err-more
summed-returns-in_err-more g t c =
    let facts = facts_of (g.E.Env.facts_at c.args.env.now) in
    err-same
    (λ (r : Result (List Value) Stop). Sums facts c.args.most r c.args.parts.now) c.from_residual-in_err-more.result
    c.in_err-more.field-0.0 c.from_residual-in_err-more.ensures.1
    (loop.sum-stops facts c.args.most c.args.parts.now c.loop-plus.plus-index c.loop-plus-item.result
    c.loop-plus.so_far c.in_err-more.field-0.0 c.loop-plus-test.true c.loop-plus-item.is c.loop-plus.invariant
    c.in_err-more.ensures)

pub summed-returns : goal.summed-returns
summed-returns g t c =
    let facts = facts_of (g.E.Env.facts_at c.args.env.now) in
    loop.sum-ends facts c.args.most c.args.parts.now c.loop-plus.plus-index c.loop-plus.so_far c.loop-plus-test.false
    c.loop-plus.invariant

pub chosen-loop-test-init : goal.chosen-loop-test-init
chosen-loop-test-init g t c =
    let facts = facts_of (g.E.Env.facts_at c.args.env.now) in
    loop.choice-begins facts c.args.most c.args.cases.now c.new-so_far.result c.new-so_far.ensures
    (keeps-nothing c.args.most c.new-so_far.result c.new-so_far.ensures)

pub chosen-loop-test-preserved : goal.chosen-loop-test-preserved
chosen-loop-test-preserved g t c =
    let facts = facts_of (g.E.Env.facts_at c.args.env.now) in
    loop.choice-goes-on facts c.args.most c.args.cases.now c.loop-test.test-index c.loop-test-item.result
    c.loop-test.so_far c.in_ok-more.more c.loop-test.passes c.both-takes.result c.in_ok-can_pass.can_pass
    c.in_ok-can_pass.can_take c.both-passes.result c.loop-test-test.true c.loop-test-item.is c.loop-test.invariant
    c.in_ok-can_pass.ensures c.in_ok-more.ensures c.both-takes.ensures c.both-passes.ensures

pub chosen-returns-in_err-can_pass : goal.chosen-returns-in_err-can_pass
chosen-returns-in_err-can_pass g t c =
    let facts = facts_of (g.E.Env.facts_at c.args.env.now) in
    err-same
    (λ (r : Result (List Value × Bool) Stop). Chooses facts c.args.most r c.args.cases.now) c.from_residual.result
    c.in_err-can_pass.field-0.0 c.from_residual.ensures.1
    (loop.case-test-stop facts c.args.most c.args.cases.now c.loop-test.test-index c.loop-test-item.result
    c.in_err-can_pass.field-0.0 c.loop-test-test.true c.loop-test-item.is c.in_err-can_pass.ensures)

pub chosen-returns-then-is_none : goal.chosen-returns-then-is_none
chosen-returns-then-is_none g t c =
    let facts = facts_of (g.E.Env.facts_at c.args.env.now) in
    let next =
    loop.choice-goes-on facts c.args.most c.args.cases.now c.loop-test.test-index c.loop-test-item.result
    c.loop-test.so_far c.in_ok-more.more c.loop-test.passes c.both-takes.result c.in_ok-can_pass.can_pass
    c.in_ok-can_pass.can_take c.both-passes.result c.loop-test-test.true c.loop-test-item.is c.loop-test.invariant
    c.in_ok-can_pass.ensures c.in_ok-more.ensures c.both-takes.ensures c.both-passes.ensures in
    loop.choice-stops-early facts c.args.most c.args.cases.now
    (c.loop-test.test-index + 1) c.in_ok-more.more c.both-passes.result c.if-not-passes.true
    (loop.none-there _ c.is_none.result c.is_none.ensures c.if-is_none.true) next

pub yielded-returns-in_ok-set-in-Choose : goal.yielded-returns-in_ok-set-in-Choose
yielded-returns-in_ok-set-in-Choose g t c =
    let facts = facts_of (g.E.Env.facts_at c.args.env.now) in
    arm.choice-arm facts c.args.most c.with_branch.result c.args.expr.now c.deref-in-Choose-2.result.now
    c.deref-in-Choose.result.now c.in-Choose.cases c.in-Choose.other c.in_ok-set-in-Choose.set
    c.in_ok-set-in-Choose.passes c.in-Choose.is c.deref-in-Choose.ensures.value c.deref-in-Choose-2.ensures
    c.in_ok-set-in-Choose.ensures c.with_branch.ensures

pub chosen-returns-in_err-more : goal.chosen-returns-in_err-more
chosen-returns-in_err-more g t c =
    let facts = facts_of (g.E.Env.facts_at c.args.env.now) in
    err-same
    (λ (r : Result (List Value × Bool) Stop). Chooses facts c.args.most r c.args.cases.now)
    c.from_residual-in_err-more.result c.in_err-more.field-0.0 c.from_residual-in_err-more.ensures.1
    (loop.case-branch-stop facts c.args.most c.args.cases.now c.loop-test.test-index c.loop-test-item.result
    c.loop-test.so_far c.loop-test.passes c.both-takes.result c.in_ok-can_pass.can_pass c.in_ok-can_pass.can_take
    c.in_err-more.field-0.0 c.loop-test-test.true c.loop-test-item.is c.loop-test.invariant c.in_ok-can_pass.ensures
    c.both-takes.ensures c.in_err-more.ensures)

pub chosen-returns : goal.chosen-returns
chosen-returns g t c =
    let facts = facts_of (g.E.Env.facts_at c.args.env.now) in
    loop.choice-ends facts c.args.most c.args.cases.now c.loop-test.test-index c.loop-test.so_far c.loop-test.passes
    c.loop-test-test.false c.loop-test.invariant

pub with_branch-returns-then-is_none : goal.with_branch-returns-then-is_none
with_branch-returns-then-is_none g t c =
    let facts = facts_of (g.E.Env.facts_at c.args.env.now) in
    form.branch-skips facts c.args.most
    (out-Expr g.row.V.Denot c.args.value.now) c.args.set c.args.takes c.if-not-takes.true
    (loop.none-there _ c.is_none.result c.is_none.ensures c.if-is_none.true)

pub with_branch-returns : goal.with_branch-returns
with_branch-returns g t c =
    let facts = facts_of (g.E.Env.facts_at c.args.env.now) in
    form.branch-done facts c.args.most
    (out-Expr g.row.V.Denot c.args.value.now) c.args.set c.in_ok-values.values c.args.takes c.joined_where.result
    c.in_ok-values.ensures c.joined_where.ensures

pub with_branch-returns-in_err-values : goal.with_branch-returns-in_err-values
with_branch-returns-in_err-values g t c =
    let facts = facts_of (g.E.Env.facts_at c.args.env.now) in
    err-same
    (λ (r : Result (List Value) Stop). Joins facts c.args.most r c.args.takes c.args.set
    (out-Expr g.row.V.Denot c.args.value.now)) c.from_residual.result c.in_err-values.field-0.0
    c.from_residual.ensures.1
    (form.branch-stop facts c.args.most (out-Expr g.row.V.Denot c.args.value.now) c.args.set c.args.takes
    c.in_err-values.field-0.0 c.in_err-values.ensures)

pub chosen-offset_bounds-cases-test-index : goal.chosen-offset_bounds-cases-test-index
chosen-offset_bounds-cases-test-index g t c =
    c.loop-test.auto.test-index-end

pub chosen-truths-requires : goal.chosen-truths-requires
chosen-truths-requires g t c =
    λ κs within. (
      smaller.rank_falls 1 2 0 _ _ t refl
          (smaller.up-test c.args.cases.now c.loop-test.test-index c.loop-test-item.result c.loop-test-test.true
          c.loop-test-item.is) c.decreases,
      within,
    )

pub chosen-with_branch-requires : goal.chosen-with_branch-requires
chosen-with_branch-requires g t c =
    λ κs within. (
      smaller.rank_falls 1 2 0 _ _ t refl
          (smaller.up-value c.args.cases.now c.loop-test.test-index c.loop-test-item.result c.loop-test-test.true
          c.loop-test-item.is) c.decreases,
      (within.0, (within.1, c.loop-test.invariant.keeps)),
    )

pub chosen-loop-test-smaller : goal.chosen-loop-test-smaller
chosen-loop-test-smaller g t c =
    falls _ c.loop-test.test-index c.loop-test-test.true

pub folded-offset_bounds-es-e-index : goal.folded-offset_bounds-es-e-index
folded-offset_bounds-es-e-index g t c =
    c.loop-e.auto.e-index-end

pub folded-with_operand-requires : goal.folded-with_operand-requires
folded-with_operand-requires g t c =
    λ κs within. (
      smaller.rank_falls 1 2 0 _ _ t refl
          (smaller.up-item c.args.es.now c.loop-e.e-index c.e-item.result c.loop-e-test.true
          c.e-item.is) c.decreases,
      within,
    )

pub folded-loop-e-smaller : goal.folded-loop-e-smaller
folded-loop-e-smaller g t c =
    falls _ c.loop-e.e-index c.loop-e-test.true

pub summed-offset_bounds-parts-plus-index : goal.summed-offset_bounds-parts-plus-index
summed-offset_bounds-parts-plus-index g t c =
    c.loop-plus.auto.plus-index-end

pub summed-with_operand-requires : goal.summed-with_operand-requires
summed-with_operand-requires g t c =
    λ κs within. (
      smaller.rank_falls 1 2 0 _ _ t refl
          (smaller.up-part c.args.parts.now c.loop-plus.plus-index c.loop-plus-item.result c.loop-plus-test.true
          c.loop-plus-item.is) c.decreases,
      within,
    )

pub summed-loop-plus-smaller : goal.summed-loop-plus-smaller
summed-loop-plus-smaller g t c =
    falls _ c.loop-plus.plus-index c.loop-plus-test.true

pub tally-offset_bounds-es-e-index : goal.tally-offset_bounds-es-e-index
tally-offset_bounds-es-e-index g t c =
    c.loop-e.auto.e-index-end

pub tally-truths-requires : goal.tally-truths-requires
tally-truths-requires g t c =
    λ κs within. (
      smaller.rank_falls 1 2 0 _ _ t refl
          (smaller.up-item c.args.es.now c.loop-e.e-index c.e-item.result c.loop-e-test.true
          c.e-item.is) c.decreases,
      within,
    )

pub tally-loop-e-smaller : goal.tally-loop-e-smaller
tally-loop-e-smaller g t c =
    falls _ c.loop-e.e-index c.loop-e-test.true

pub tally-returns : goal.tally-returns
tally-returns g t c =
    let facts = facts_of (g.E.Env.facts_at c.args.env.now) in
    loop.tally-ends facts c.args.most c.args.b c.loop-e.one_other c.loop-e.each c.args.es.now c.loop-e.e-index
    c.loop-e-test.false c.loop-e.invariant

pub truths-yielded-requires : goal.truths-yielded-requires
truths-yielded-requires g t c =
    λ κs within. (
      smaller.rank_falls 0 1 0 _ _ t refl
          (smaller.no_more _) c.decreases,
      within,
    )

pub truths-returns-in_err-set : goal.truths-returns-in_err-set
truths-returns-in_err-set g t c =
    let facts = facts_of (g.E.Env.facts_at c.args.env.now) in
    err-same
    (λ (r : Result (Bool × Bool) Stop). TellsAnswer facts c.args.most c.args.b r (out-Expr g.row.V.Denot c.args.e.now))
    c.from_residual-in_err-set.result c.in_err-set.field-0.0 c.from_residual-in_err-set.ensures.1 c.in_err-set.ensures

pub truths-returns : goal.truths-returns
truths-returns g t c =
    let facts = facts_of (g.E.Env.facts_at c.args.env.now) in
    loop.tell-of-set facts c.args.most c.args.b c.has.result c.has-2.result c.in_ok-set.set
    (out-Expr g.row.V.Denot c.args.e.now) c.in_ok-set.ensures c.has.ensures c.has-2.ensures

pub with_branch-yielded-requires : goal.with_branch-yielded-requires
with_branch-yielded-requires g t c =
    λ κs within. (
      smaller.rank_falls 0 1 0 _ _ t refl
          (smaller.no_more _) c.decreases,
      within,
    )

pub with_branch-joined_where-requires : goal.with_branch-joined_where-requires
with_branch-joined_where-requires g t c =
    c.requires

pub yielded-truths-requires : goal.yielded-truths-requires
yielded-truths-requires g t c =
    λ κs within. (
      smaller.size_falls 1 1 _ _ t refl
          (smaller.less-not c.args.expr.now c.deref.result.now c.in-Not.a c.in-Not.is c.deref.ensures) c.decreases,
      within,
    )

pub yielded-tally-requires : goal.yielded-tally-requires
yielded-tally-requires g t c =
    λ κs within. (
      smaller.size_falls 2 0 _ _ t refl
          (smaller.less-all c.args.expr.now c.in-All.es c.deref-in-All.result.now c.in-All.is
          c.deref-in-All.ensures.value) c.decreases,
      within,
    )

pub yielded-tally-requires-in-Any : goal.yielded-tally-requires-in-Any
yielded-tally-requires-in-Any g t c =
    λ κs within. (
      smaller.size_falls 2 0 _ _ t refl
          (smaller.less-any c.args.expr.now c.in-Any.es c.deref-in-Any.result.now c.in-Any.is
          c.deref-in-Any.ensures.value) c.decreases,
      within,
    )

pub yielded-folded-requires : goal.yielded-folded-requires
yielded-folded-requires g t c =
    λ κs within. (
      smaller.size_falls 2 0 _ _ t refl
          (smaller.less-product c.args.expr.now c.in-Product.es c.deref-in-Product.result.now c.in-Product.is
          c.deref-in-Product.ensures.value) c.decreases,
      within,
    )

pub yielded-folded-requires-in-Least : goal.yielded-folded-requires-in-Least
yielded-folded-requires-in-Least g t c =
    λ κs within. (
      smaller.size_falls 2 0 _ _ t refl
          (smaller.less-least c.args.expr.now c.in-Least.es c.deref-in-Least.result.now c.in-Least.is
          c.deref-in-Least.ensures.value) c.decreases,
      within,
    )

pub yielded-folded-requires-in-Greatest : goal.yielded-folded-requires-in-Greatest
yielded-folded-requires-in-Greatest g t c =
    λ κs within. (
      smaller.size_falls 2 0 _ _ t refl
          (smaller.less-greatest c.args.expr.now c.in-Greatest.es c.deref-in-Greatest.result.now c.in-Greatest.is
          c.deref-in-Greatest.ensures.value) c.decreases,
      within,
    )

pub yielded-folded-requires-in-Count : goal.yielded-folded-requires-in-Count
yielded-folded-requires-in-Count g t c =
    λ κs within. (
      smaller.size_falls 2 0 _ _ t refl
          (smaller.less-count c.args.expr.now c.in-Count.es c.deref-in-Count.result.now c.in-Count.is
          c.deref-in-Count.ensures.value) c.decreases,
      within,
    )

pub yielded-yielded-requires : goal.yielded-yielded-requires
yielded-yielded-requires g t c =
    λ κs within. (
      smaller.size_falls 0 2 _ _ t refl
          (smaller.less-left c.args.expr.now c.deref-in-Compare.result.now c.in-Compare.relation c.in-Compare.a
          c.in-Compare.b c.in-Compare.is c.deref-in-Compare.ensures) c.decreases,
      within,
    )

pub yielded-summed-requires : goal.yielded-summed-requires
yielded-summed-requires g t c =
    λ κs within. (
      smaller.size_falls 2 0 _ _ t refl
          (smaller.less-parts c.args.expr.now c.in-Sum.parts c.deref-in-Sum.result.now c.in-Sum.is
          c.deref-in-Sum.ensures.value) c.decreases,
      within,
    )

pub yielded-chosen-requires : goal.yielded-chosen-requires
yielded-chosen-requires g t c =
    λ κs within. (
      smaller.size_falls 2 0 _ _ t refl
          (smaller.less-cases c.args.expr.now c.in-Choose.cases c.in-Choose.other c.deref-in-Choose.result.now
          c.in-Choose.is c.deref-in-Choose.ensures.value) c.decreases,
      within,
    )

pub yielded-with_branch-requires : goal.yielded-with_branch-requires
yielded-with_branch-requires g t c =
    λ κs within. (
      smaller.size_falls 1 1 _ _ t refl
          (smaller.less-other c.args.expr.now c.deref-in-Choose-2.result.now c.in-Choose.cases c.in-Choose.other
          c.in-Choose.is c.deref-in-Choose-2.ensures) c.decreases,
      (within.0, (within.1, c.in_ok-set-in-Choose.ensures.1)),
    )

pub with_operand-yielded-requires : goal.with_operand-yielded-requires
with_operand-yielded-requires g t c =
    λ κs within. (
      smaller.rank_falls 0 1 0 _ _ t refl
          (smaller.no_more _) c.decreases,
      within,
    )

pub with_operand-returns-in_err-set : goal.with_operand-returns-in_err-set
with_operand-returns-in_err-set g t c =
    let facts = facts_of (g.E.Env.facts_at c.args.env.now) in
    err-same
    (λ (r : Result (List Value) Stop). Steps facts c.args.most c.args.step c.args.first c.args.so_far r
    (out-Expr g.row.V.Denot c.args.e.now)) c.from_residual.result c.in_err-set.field-0.0 c.from_residual.ensures.1
    (operand_stopped c.in_err-set.ensures refl)

pub with_operand-returns : goal.with_operand-returns
with_operand-returns g t c =
    let facts = facts_of (g.E.Env.facts_at c.args.env.now) in
    let step1 =
    subst
    (λ (l : List Value). Gathers c.args.most c.stepped.result (IsNextOperand c.args.step c.args.first l c.values-2.result.now))
    c.values.ensures.values c.stepped.ensures in
    let step2 =
    subst
    (λ (l : List Value). Gathers c.args.most c.stepped.result (IsNextOperand c.args.step c.args.first c.args.so_far l))
    c.values-2.ensures.values step1 in
    stepped {values = c.in_ok-set.set} c.in_ok-set.ensures step2

pub yielded-yielded-requires-in-Compare : goal.yielded-yielded-requires-in-Compare
yielded-yielded-requires-in-Compare g t c =
    λ κs within. (
      smaller.size_falls 0 2 _ _ t refl
          (smaller.less-right c.args.expr.now c.deref-in-Compare-2.result.now c.in-Compare.relation c.in-Compare.a
          c.in-Compare.b c.in-Compare.is c.deref-in-Compare-2.ensures) c.decreases,
      within,
    )

pub yielded-some_related-can_be_false-requires-clause-left : goal.yielded-some_related-can_be_false-requires-clause-left
yielded-some_related-can_be_false-requires-clause-left g t c =
    c.values.ensures.ascending

pub yielded-some_related-can_be_false-requires-clause-right : goal.yielded-some_related-can_be_false-requires-clause-right
yielded-some_related-can_be_false-requires-clause-right g t c =
    c.values-in-Compare.ensures.ascending

pub yielded-some_related-can_be_true-requires-clause-left : goal.yielded-some_related-can_be_true-requires-clause-left
yielded-some_related-can_be_true-requires-clause-left g t c =
    c.values-in-Compare-2.ensures.ascending

pub yielded-some_related-can_be_true-requires-clause-right : goal.yielded-some_related-can_be_true-requires-clause-right
yielded-some_related-can_be_true-requires-clause-right g t c =
    c.values-in-Compare-3.ensures.ascending

pub yielded-returns-in_err-right-in-Compare : goal.yielded-returns-in_err-right-in-Compare
yielded-returns-in_err-right-in-Compare g t c =
    let facts = facts_of (g.E.Env.facts_at c.args.env.now) in
    err-same
    (λ (r : Result (List Value) Stop). Evaluates facts c.args.most r (out-Expr g.row.V.Denot c.args.expr.now))
    c.from_residual-in_err-right-in-Compare.result c.in_err-right-in-Compare.field-0.0
    c.from_residual-in_err-right-in-Compare.ensures.1
    (arm.compared-arm facts c.args.most _ c.args.expr.now c.deref-in-Compare.result.now
    c.deref-in-Compare-2.result.now c.in-Compare.relation c.in-Compare.a c.in-Compare.b c.in_ok-left-in-Compare.left
    c.in-Compare.is c.deref-in-Compare.ensures c.deref-in-Compare-2.ensures c.in_ok-left-in-Compare.ensures
    (right_stopped c.in_err-right-in-Compare.ensures refl))

pub yielded-returns-in_ok-right-in-Compare : goal.yielded-returns-in_ok-right-in-Compare
yielded-returns-in_ok-right-in-Compare g t c =
    let facts = facts_of (g.E.Env.facts_at c.args.env.now) in
    let q = c.in-Compare.relation in
    let xs = c.in_ok-left-in-Compare.left in
    let f = c.some_related-can_be_false in
    let s = c.some_related-can_be_true in
    let f1 = subst (λ (l : List Value). IsTrue f.result ↔ SomeRelated q l c.values-in-Compare.result.now false)
    c.values.ensures.values f.ensures in
    let f2 = subst (λ (l : List Value). IsTrue f.result ↔ SomeRelated q xs l false)
    c.values-in-Compare.ensures.values f1 in
    let t1 = subst (λ (l : List Value). IsTrue s.result ↔ SomeRelated q l c.values-in-Compare-3.result.now true)
    c.values-in-Compare-2.ensures.values s.ensures in
    let t2 = subst (λ (l : List Value). IsTrue s.result ↔ SomeRelated q xs l true)
    c.values-in-Compare-3.ensures.values t1 in
    arm.compared-arm facts c.args.most c.truth_set-in-Compare.result c.args.expr.now c.deref-in-Compare.result.now
    c.deref-in-Compare-2.result.now q c.in-Compare.a c.in-Compare.b xs
    c.in-Compare.is c.deref-in-Compare.ensures c.deref-in-Compare-2.ensures c.in_ok-left-in-Compare.ensures
    (compared {values = c.in_ok-right-in-Compare.right} c.in_ok-right-in-Compare.ensures f2 t2
    c.truth_set-in-Compare.ensures)
