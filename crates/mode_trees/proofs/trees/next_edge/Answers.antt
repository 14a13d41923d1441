use Rattle.std.proofs.Common.{◌+◌, Option, Some, sym, ◌∙◌, ap, subst}
use Rattle.ar_base.proofs.Standing.{stands_get}
use Rattle.mode_trees.specs.declared.forests.Edge.{Edge}
use Rattle.mode_trees.specs.Paths.{IsNextOrNone}
use Rattle.mode_trees.proofs.Nexts.{next_take, next_skip}
use Rattle.mode_trees.proofs.trees.next_edge.Goals.{then-leaves, else-leaves}
use Rattle.mode_trees.proofs.trees.next_edge.Goals as goal

pub loop-edge-preserved : goal.loop-edge-preserved
loop-edge-preserved c =
    let edges = c.args.edges.now in
    let i = c.loop-edge.edge-index in
    elim c.if-leaves.branch [
      | then-leaves w ↦ subst (λ (z : Option Edge). IsNextOrNone edges (i + 1) c.args.from c.args.low z)
          (sym (w.found-is ∙ ap Some w.earlier.ensures))
          (next_take edges c.args.from c.args.low i _ c.loop-edge.found (stands_get edges i _ c.loop-edge-test.true)
          c.loop-edge.invariant w.if-leaves.ensures)
      | else-leaves w ↦ subst (λ (z : Option Edge). IsNextOrNone edges (i + 1) c.args.from c.args.low z)
          (sym w.found-is)
          (next_skip edges c.args.from c.args.low i _ c.loop-edge.found (stands_get edges i _ c.loop-edge-test.true)
          c.loop-edge.invariant w.if-leaves.ensures)
    ]
