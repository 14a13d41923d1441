use Rattle.std.proofs.Common.{◌<◌, ◌∷◌, [], ◌++◌, length, ◌∙◌, ap, arith}
use Rattle.ar_base.specs.Numbers.{NameId}
use Rattle.ar_base.specs.declared.places.Place.{Place}
use Rattle.ar_base.proofs.Standing.{stands_get}
use Rattle.class_table.specs.TablesInside.{site_of}
use Rattle.class_table.proofs.Taken.{map_next}
use Rattle.hierarchy.specs.declared.tree.MemNode.{MemNode}
use Rattle.instantiate.specs.Nodes.{name_node}
use Rattle.instantiate.proofs.Noded.{grown}
use Rattle.instantiate.proofs.nodes.add_names.Goals as goal

pub loop-name-preserved : goal.loop-name-preserved
loop-name-preserved c =
    let l : c.loop-name.name-index < length c.args.names.now = omega arith in
    let none : NameId × Place = (record { n = 0; of = record {} }, record { line = 0; column = 0 }) in
    let s = stands_get c.args.names.now c.loop-name.name-index none l in
    let e = map_next (name_node c.args.unit (site_of c.args.site)) c.args.names.now c.loop-name.name-index _ s in
    grown _ _ _ _ _ _ c.loop-name.invariant
    (c.in_ok-push.ensures.items ∙ ap (λ (d : MemNode). c.loop-name.nodes.items ++ d ∷ []) c.node.ensures) e
