use Rattle.std.proofs.Common.{Ok, Err}
use Rattle.eq_build.specs.Views.{gates_in}
use Rattle.eq_build.proofs.Places.{item_next}
use Rattle.eq_build.specs.Steps.{Has_modes, modes_of}
use Rattle.eq_build.specs.Steps as t
use Rattle.tree_equations.specs.Answers.{tree_in, row_in}
use Rattle.tree_equations.proofs.Each.{each_start, each_next, each_stops, each_ends}
use Rattle.tree_equations.proofs.Determined.{modes_one}
use Rattle.tree_equations.proofs.Rising.{modes_more}
use Rattle.tree_equations.proofs.Giving.{entries_give}
use Rattle.tree_equations.proofs.modes.modes.Goals as goal

pub loop-tree-init : goal.loop-tree-init
loop-tree-init c = record {
  few = c.requires;
  so_far = each_start tree_in row_in Has_modes modes_one modes_more (gates_in c.args.gates.now.items) c.args.trees.now
      c.new-rows.result.items c.new-rows.ensures.items;
}

pub loop-tree-preserved : goal.loop-tree-preserved
loop-tree-preserved c =
    let h = gates_in c.loop-tree.gates.items in
    let tree = c.tree-item.result in
    let made = entries_give (modes_of (tree_in tree) h) (Has_modes h (tree_in tree)) (Ok c.in_ok-row.row)
    c.tree_modes.new.gates.items t.modes (λ y k d. (modes_one h _ k (tree_in tree) _ y t.modes d).1)
    c.in_ok-row.ensures in
    record {
      few = made.1;
      so_far = each_next tree_in row_in Has_modes modes_one modes_more (gates_in c.args.gates.now.items) h
          (gates_in c.tree_modes.new.gates.items) c.args.trees.now c.loop-tree.tree-index tree c.loop-tree.rows.items
          c.push.new.self.items c.in_ok-row.row
          (item_next c.args.trees.now c.loop-tree.tree-index tree c.loop-tree-test.true c.tree-item.is) made.0
          c.in_ok-push.ensures.items c.loop-tree.invariant.so_far;
    }

pub returns-in_err-row : goal.returns-in_err-row
returns-in_err-row c =
    let h = gates_in c.loop-tree.gates.items in
    let tree = c.tree-item.result in
    let fails = entries_give (modes_of (tree_in tree) h) (Has_modes h (tree_in tree)) (Err c.in_err-row.field-0.0)
    c.tree_modes.new.gates.items t.modes (λ y k d. (modes_one h _ k (tree_in tree) _ y t.modes d).1)
    c.in_err-row.ensures in
    each_stops tree_in row_in Has_modes modes_one modes_more (gates_in c.args.gates.now.items) h c.args.trees.now
    c.loop-tree.tree-index tree c.loop-tree.rows.items c.from_residual.result c.in_err-row.field-0.0
    c.tree_modes.new.gates.items
    (item_next c.args.trees.now c.loop-tree.tree-index tree c.loop-tree-test.true c.tree-item.is)
    c.loop-tree.invariant.so_far c.from_residual.ensures.1 fails

pub returns : goal.returns
returns c = (
  each_ends tree_in row_in Has_modes modes_one modes_more (gates_in c.args.gates.now.items)
      (gates_in c.loop-tree.gates.items) c.args.trees.now c.loop-tree.tree-index c.loop-tree.rows.items
      c.loop-tree-test.false c.loop-tree.invariant.so_far,
  c.loop-tree.invariant.few,
)
