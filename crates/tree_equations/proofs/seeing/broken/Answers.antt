use Rattle.ar_base.proofs.Standing.{one_here, stands_item}
use Rattle.eq_core.specs.Views.{operand_of}
use Rattle.eq_build.specs.Views.{gates_in, row_at}
use Rattle.eq_build.proofs.Places.{item_next}
use Rattle.gts_core.specs.View.{assign_of}
use Rattle.eq_build.specs.Steps.{Sees_broken}
use Rattle.tree_equations.proofs.Each.{each_start, each_next, each_stops, each_ends}
use Rattle.tree_equations.proofs.Determined.{broken_one}
use Rattle.tree_equations.proofs.Rising.{broken_more}
use Rattle.tree_equations.proofs.seeing.broken.Goals as goal

pub breaks-requires-clause-under : goal.breaks-requires-clause-under
breaks-requires-clause-under c =
    let xs = c.args.assigns.now in
    let i = c.loop-assign.assign-index in
    let a = c.assign-item.result in
    c.requires.under a (one_here xs i a (stands_item xs i a c.loop-assign-test.true c.assign-item.is))

pub loop-assign-init : goal.loop-assign-init
loop-assign-init c =
    let read = row_at c.args.rows.now in
    record {
      few = c.requires.few;
      so_far = each_start assign_of operand_of (Sees_broken read) (broken_one read) (broken_more read)
          (gates_in c.args.gates.now.items) c.args.assigns.now c.new-seen.result.items c.new-seen.ensures.items;
    }

pub loop-assign-preserved : goal.loop-assign-preserved
loop-assign-preserved c =
    let read = row_at c.args.rows.now in
    let xs = c.args.assigns.now in
    let i = c.loop-assign.assign-index in
    let a = c.assign-item.result in
    record {
      few = c.in_ok-operand.ensures.1;
      so_far = each_next assign_of operand_of (Sees_broken read) (broken_one read) (broken_more read)
          (gates_in c.args.gates.now.items) (gates_in c.loop-assign.gates.items) (gates_in c.breaks.new.gates.items) xs
          i
          a c.loop-assign.seen.items c.push.new.self.items c.in_ok-operand.operand
          (item_next xs i a c.loop-assign-test.true c.assign-item.is) c.in_ok-operand.ensures.0
          c.in_ok-push.ensures.items c.loop-assign.invariant.so_far;
    }

pub returns-in_err-operand : goal.returns-in_err-operand
returns-in_err-operand c =
    let read = row_at c.args.rows.now in
    let xs = c.args.assigns.now in
    let i = c.loop-assign.assign-index in
    let a = c.assign-item.result in
    each_stops assign_of operand_of (Sees_broken read) (broken_one read) (broken_more read)
    (gates_in c.args.gates.now.items) (gates_in c.loop-assign.gates.items) xs i a c.loop-assign.seen.items
    c.from_residual.result c.in_err-operand.field-0.0 c.breaks.new.gates.items
    (item_next xs i a c.loop-assign-test.true c.assign-item.is) c.loop-assign.invariant.so_far
    c.from_residual.ensures.1 c.in_err-operand.ensures

pub returns : goal.returns
returns c =
    let read = row_at c.args.rows.now in (
      each_ends assign_of operand_of (Sees_broken read) (broken_one read) (broken_more read)
          (gates_in c.args.gates.now.items) (gates_in c.loop-assign.gates.items) c.args.assigns.now
          c.loop-assign.assign-index c.loop-assign.seen.items c.loop-assign-test.false c.loop-assign.invariant.so_far,
      c.loop-assign.invariant.few,
    )
