use Rattle.std.proofs.Common.{◌<◌, ◌≤◌, get_or, length, slice_get, take, take_all, sym, ap, ◌∙◌, subst}
use Rattle.std.proofs.lemmas.List.{take_more}
use Rattle.diagram_steps.specs.declared.trees.NumberedEdge.{NumberedEdge}
use Rattle.diagram_steps.specs.Trees.{edges_of}
use Rattle.diagram_steps.specs.Order.{least_from}
use Rattle.diagram_steps.proofs.TreeOrder.{first_number, first_is, least_whole, least_less, least_same}
use Rattle.diagram_steps.proofs.ordering.least_event.Goals as goal
use Rattle.diagram_steps.proofs.ordering.least_event.Goals.{then-edge-least, else-edge-least}

-- what is read past the end
abbrev no_edge : NumberedEdge
no_edge = record { event = record { n = 0; of = record {} }; from = 0 }

pub loop-edge-init : goal.loop-edge-init
loop-edge-init c = first_is (edges_of c.args.tree.now) c.in-Some.first.now (c.in-Some.ensures.value
    ∙ ap (λ es. slice_get es 0) c.deref.ensures.value)

pub loop-edge-preserved : goal.loop-edge-preserved
loop-edge-preserved c =
    let edges = edges_of c.args.tree.now in
    let first = first_number edges in
    let i = c.loop-edge.edge-index in
    let edge = get_or edges i no_edge in
    let before = take i edges in
    let is = c.deref-edge-items.ensures.value in
    let inside : i < length edges = subst (λ es. i < length es) is c.loop-edge-test.true in
    let more = sym (ap (least_from first) (take_more edges i no_edge inside)) in
    elim c.if-edge-least.branch [
      | then-edge-least w ↦ w.least-is ∙ ap (λ es. (get_or es i no_edge).event.n) is
          ∙ least_less first before edge c.loop-edge.least c.loop-edge.invariant
          (subst (λ es. (get_or es i no_edge).event.n < c.loop-edge.least) is w.if-edge-least.true) ∙ more
      | else-edge-least w ↦ w.least-is
          ∙ least_same first before edge c.loop-edge.least c.loop-edge.invariant
          (subst (λ es. c.loop-edge.least ≤ (get_or es i no_edge).event.n) is w.if-edge-least.false) ∙ more
    ]

pub returns : goal.returns
returns c =
    let edges = edges_of c.args.tree.now in
    c.loop-edge.invariant
    ∙ ap (least_from (first_number edges)) (take_all c.loop-edge.edge-index edges
    (subst (λ es. length es ≤ c.loop-edge.edge-index) c.deref-edge-items.ensures.value c.loop-edge-test.false))
    ∙ least_whole edges
