use Rattle.std.proofs.Common.{List, ◌++◌, take, take_all, append-nil, sym, ap, subst}
use Rattle.mode_trees.specs.declared.forests.Edge.{Edge}
use Rattle.module_text.specs.Places.{ArePlacesOf}
use Rattle.module_text.proofs.Placing.{edges_more}
use Rattle.module_text.proofs.places.add_edges.Goals as goal

pub loop-edge-init : goal.loop-edge-init
loop-edge-init c = λ before are. subst (λ (z : List Edge). ArePlacesOf z c.args.table.now) (sym (append-nil before)) are

pub loop-edge-preserved : goal.loop-edge-preserved
loop-edge-preserved c = λ before are.
    let es = c.args.edges.now in
    let i = c.loop-edge.edge-index in
    edges_more before es i _ c.add_edge.new.table c.loop-edge-test.true
    (c.in_ok-add_edge.ensures (before ++ take i es) (c.loop-edge.invariant before are))

pub returns : goal.returns
returns c = λ before are.
    subst (λ (z : List Edge). ArePlacesOf (before ++ z) c.loop-edge.table)
    (take_all c.loop-edge.edge-index c.args.edges.now c.loop-edge-test.false) (c.loop-edge.invariant before are)
