use Rattle.eq_build.specs.Steps.{Threads, Builds_conditions}
use Rattle.std.proofs.Common.{map, sym, ap, ◌∙◌}
use Rattle.domains.specs.declared.Value.TheVariants.{Truth}
use Rattle.eq_build.specs.Entries.{operand_for}
use Rattle.eq_build.proofs.Stopping.{stops_up}
use Rattle.tree_equations.specs.Answers.{signs_in}
use Rattle.eq_core.specs.Views.{operand_of}
use Rattle.eq_build.specs.Views.{gates_in, row_at, entries_in}
use Rattle.eq_build.proofs.Places.{item_next}
use Rattle.gts_core.specs.View.{condition_of}
use Rattle.tree_equations.proofs.Each.{each_start, each_next, each_stops, each_ends}
use Rattle.tree_equations.proofs.Giving.{Tests, tests_one, tests_more, tests_on, tests_back, gives_as}
use Rattle.tree_equations.proofs.assigning.conditions.Goals as goal

pub loop-test-init : goal.loop-test-init
loop-test-init c =
    let read = row_at c.args.rows.now in
    record {
      few = c.requires;
      so_far = each_start condition_of operand_of (Tests read) (tests_one read) (tests_more read)
          (gates_in c.args.gates.now.items) c.args.conditions.now c.new-operands.result.items
          c.new-operands.ensures.items;
    }

pub loop-test-preserved : goal.loop-test-preserved
loop-test-preserved c =
    let read = row_at c.args.rows.now in
    let made = c.in_ok-entries.ensures in
    let xs = c.args.conditions.now in
    record {
      few = made.1;
      so_far = each_next condition_of operand_of (Tests read) (tests_one read) (tests_more read)
          (gates_in c.args.gates.now.items) (gates_in c.loop-test.gates.items) (gates_in c.built.new.gates.items) xs
          c.loop-test.test-index c.loop-test-item.result c.loop-test.operands.items c.push.new.self.items
          c.operand_for.result
          (item_next xs c.loop-test.test-index c.loop-test-item.result c.loop-test-test.true c.loop-test-item.is)
          (record {
            entries = _;
            builds = made.0;
            is = sym (c.operand_for.ensures ∙ ap (λ z. operand_for (entries_in z) (Truth c.loop-test-item.result.1))
                c.deref.ensures.value);
          }) c.in_ok-push.ensures.items
          c.loop-test.invariant.so_far;
    }

pub returns-in_err-entries : goal.returns-in_err-entries
returns-in_err-entries c =
    let read = row_at c.args.rows.now in
    let xs = c.args.conditions.now in
    let h = gates_in c.loop-test.gates.items in
    let stopped = each_stops condition_of operand_of (Tests read) (tests_one read) (tests_more read)
    (gates_in c.args.gates.now.items) h xs c.loop-test.test-index c.loop-test-item.result c.loop-test.operands.items
    c.from_residual.result c.in_err-entries.field-0.0 c.built.new.gates.items
    (item_next xs c.loop-test.test-index c.loop-test-item.result c.loop-test-test.true c.loop-test-item.is)
    c.loop-test.invariant.so_far c.from_residual.ensures.1
    (stops_up c.in_err-entries.field-0.0 (λ n y k t. n t.entries k t.builds) c.in_err-entries.ensures) in
    gives_as signs_in signs_in
    (λ os k. Threads (Tests read) (gates_in c.args.gates.now.items) (map condition_of xs) os k)
    (λ os k. Builds_conditions read (gates_in c.args.gates.now.items) (map condition_of xs) os k) c.from_residual.result
    c.built.new.gates.items (λ a k d. tests_on read d)
    (λ os k d. (os, tests_back read d)) stopped

pub returns : goal.returns
returns c =
    let read = row_at c.args.rows.now in (
      tests_on read (each_ends condition_of operand_of (Tests read) (tests_one read) (tests_more read)
          (gates_in c.args.gates.now.items) (gates_in c.loop-test.gates.items) c.args.conditions.now
          c.loop-test.test-index c.loop-test.operands.items c.loop-test-test.false c.loop-test.invariant.so_far),
      c.loop-test.invariant.few,
    )
