use Rattle.std.proofs.Common.{get_or, take, sym, subst}
use Rattle.std.proofs.lemmas.List.{take_more}
use Rattle.diagram_steps.specs.declared.trees.NumberedEdge.{NumberedEdge}
use Rattle.mode_diagrams.specs.Lacking.{PutsTree}
use Rattle.mode_diagrams.proofs.Placing.{puts_none, puts_more}
use Rattle.event_order.proofs.places.put_all.Goals as goal

-- what is read past the end
abbrev no_edge : NumberedEdge
no_edge = record { event = record { n = 0; of = record {} }; from = 0 }

pub loop-edge-init : goal.loop-edge-init
loop-edge-init c = puts_none c.args.place c.args.places.now

pub loop-edge-preserved : goal.loop-edge-preserved
loop-edge-preserved c =
    let edges = c.args.edges.now in
    let i = c.loop-edge.edge-index in
    subst (λ es. PutsTree es c.args.place c.args.places.now c.insert.new.self)
    (sym (take_more edges i no_edge c.loop-edge-test.true))
    (puts_more (take i edges) (get_or edges i no_edge) c.args.place c.args.places.now c.loop-edge.places c.insert.new.self
    c.in_ok-insert.ensures.updates c.loop-edge.invariant)
