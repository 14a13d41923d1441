use Rattle.std.proofs.Common.{None, get_or}
use Rattle.ar_base.proofs.Standing.{stands_get}
use Rattle.hierarchy.specs.declared.tree.MemNode.{MemNode}
use Rattle.bind_scopes.proofs.Telling.{tells_none, tells_more, tells_all}
use Rattle.bind_scopes.proofs.index.places_of_events.Goals as goal

-- a node that is read nowhere
no_node : MemNode
no_node = record {
  unit = record { n = 0; of = record {} };
  name = record { n = 0; of = record {} };
  source = record { body = record { n = 0; of = record {} }; member = 0; setting = None };
}

pub loop-place-init : goal.loop-place-init
loop-place-init c = tells_none (λ (d : MemNode). d) c.args.nodes.now c.new-places.result c.new-places.ensures.empty

pub loop-place-preserved : goal.loop-place-preserved
unfolding no_node
loop-place-preserved c =
    let node = get_or c.args.nodes.now c.loop-place.place no_node in
    let s = stands_get c.args.nodes.now c.loop-place.place no_node c.loop-place-test.true in
    tells_more (λ (d : MemNode). d) c.args.nodes.now c.loop-place.place node s c.loop-place.places c.add.new.places
    c.in_ok-add.ensures.0 c.loop-place.invariant

pub returns : goal.returns
returns c = tells_all (λ (d : MemNode). d) c.args.nodes.now c.loop-place.place c.loop-place.places
    c.loop-place-test.false c.loop-place.invariant
