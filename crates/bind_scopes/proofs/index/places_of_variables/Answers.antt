use Rattle.class_table.proofs.Taken.{item_stands}
use Rattle.hierarchy.specs.declared.tree.VarNode.{VarNode}
use Rattle.bind_scopes.proofs.Telling.{tells_none, tells_more, tells_all}
use Rattle.bind_scopes.proofs.index.places_of_variables.Goals as goal

pub loop-place-init : goal.loop-place-init
loop-place-init c = tells_none (λ (d : VarNode). d.node) c.args.nodes.now c.new-places.result c.new-places.ensures.empty

pub loop-place-preserved : goal.loop-place-preserved
loop-place-preserved c =
    let node = c.index-nodes-place.result in
    let s = item_stands c.args.nodes.now c.loop-place.place node c.loop-place-test.true c.index-nodes-place.is in
    tells_more (λ (d : VarNode). d.node) c.args.nodes.now c.loop-place.place node s c.loop-place.places c.add.new.places
    c.in_ok-add.ensures.0 c.loop-place.invariant

pub returns : goal.returns
returns c = tells_all (λ (d : VarNode). d.node) c.args.nodes.now c.loop-place.place c.loop-place.places
    c.loop-place-test.false c.loop-place.invariant
