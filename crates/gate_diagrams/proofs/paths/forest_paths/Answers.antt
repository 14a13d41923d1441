use Rattle.std.proofs.Common.{[], sym, subst}
use Rattle.ar_base.proofs.Standing.{stands_map, stands_item}
use Rattle.mode_trees.specs.Views.{tree_of}
use Rattle.gate_diagrams.proofs.TreePaths.{AreDrawn, none_drawn, next_drawn}
use Rattle.gate_diagrams.proofs.paths.forest_paths.Goals as goal

pub loop-tree-init : goal.loop-tree-init
loop-tree-init c =
    let none = subst (AreDrawn [] c.args.ops.now) (sym c.new-families.ensures.items) (none_drawn c.args.ops.now) in
    (c.requires.sound, none)

pub tree_paths-requires-clause-tree : goal.tree_paths-requires-clause-tree
tree_paths-requires-clause-tree c =
    let k = c.loop-tree.tree-index in
    let trees = c.args.trees.now in
    let tree = c.tree-item.result in
    let stands = stands_item trees k tree c.loop-tree-test.true c.tree-item.is in
    c.requires.trees.each k (tree_of (λ n. n) tree) (stands_map (tree_of (λ n. n)) trees k tree stands)

pub loop-tree-preserved : goal.loop-tree-preserved
loop-tree-preserved c =
    let e = c.in_ok-paths.ensures in
    let next =
    next_drawn (tree_of (λ n. n)) c.args.trees.now c.loop-tree.tree-index c.tree-item.result c.loop-tree.ops
    c.tree_paths.new.ops c.loop-tree.families.items c.push.new.self.items c.in_ok-paths.paths c.loop-tree-test.true
    c.tree-item.is c.loop-tree.invariant.1 e.grows e.in_store e.listed c.in_ok-push.ensures.items in
    (e.sound, next)
