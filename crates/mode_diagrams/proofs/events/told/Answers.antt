use Rattle.std.proofs.Common.{◌≡◌, ◌+◌, ◌++◌, ◌∷◌, [], length, get_or, refl, sym, ap, ◌∙◌, subst, arith}
use Rattle.std.proofs.lemmas.Option.{slice_get_read}
use Rattle.ar_base.specs.Lists.{Stands}
use Rattle.ar_base.proofs.Standing.{stands_get}
use Rattle.mode_nodes.specs.Diagrams.{DiagramId}
use Rattle.diagram_steps.specs.declared.trees.NumberedEdge.{NumberedEdge}
use Rattle.diagram_steps.specs.Trees.{edges_of}
use Rattle.mode_diagrams.specs.Agreement.{IsToldAt}
use Rattle.mode_diagrams.proofs.Laws.{IsSoFar, so_far_first, so_far_more, so_far_all}
use Rattle.mode_diagrams.proofs.events.told.Goals as goal
use Rattle.mode_diagrams.proofs.events.told.Goals.{then-edge-event, else-edge-event}

abbrev no_edge : NumberedEdge
no_edge = record { event = record { n = 0; of = record {} }; from = 0 }

pub loop-edge-init : goal.loop-edge-init
loop-edge-init c =
    subst (IsSoFar c.args.tree.now c.args.event.n 0)
    (sym (c.in_ok-push.ensures.items ∙ ap (λ ns. ns ++ c.new.result ∷ []) c.new-told.ensures.items))
    (so_far_first c.args.tree.now c.args.event.n c.new.result c.new.ensures)

pub index-requires : goal.index-requires
index-requires c =
    let k = c.loop-edge.edge-index in
    let items = c.deref-edge-items.result.now in
    let edge = get_or items k no_edge in
    let at : Stands (edges_of c.args.tree.now) k edge =
    subst (λ es. Stands es k edge) c.deref-edge-items.ensures.value (stands_get items k no_edge c.loop-edge-test.true) in
    let low = c.requires.each k edge at in
    omega (arith, low, c.loop-edge.invariant.long, c.loop-edge.told.ok)

pub loop-edge-preserved : goal.loop-edge-preserved
loop-edge-preserved c =
    let k = c.loop-edge.edge-index in
    let items = c.deref-edge-items.result.now in
    let edge = get_or items k no_edge in
    let at : Stands (edges_of c.args.tree.now) k edge =
    subst (λ es. Stands es k edge) c.deref-edge-items.ensures.value (stands_get items k no_edge c.loop-edge-test.true) in
    let low = c.requires.each k edge at in
    let ns = c.loop-edge.told.items in
    let told : IsToldAt ns edge c.args.event.n c.if-edge-event.next = elim c.if-edge-event.branch [
      | then-edge-event w ↦ record {
        here = λ _. ap (λ (x : DiagramId). x.n) w.next-is ∙ w.new-next.ensures;
        above = λ d. absurd (d w.if-edge-event.true);
      }
      | else-edge-event w ↦ record {
        here = λ q. absurd (w.if-edge-event.false q);
        above = λ _. subst (λ x. Stands ns edge.from x) (sym w.next-is)
            (slice_get_read ns (length ns) edge.from w.index.result.now refl
            (omega (arith, low, c.loop-edge.invariant.long)) w.index.ensures);
      }
    ] in
    subst (IsSoFar c.args.tree.now c.args.event.n (k + 1)) (sym c.in_ok-push-2.ensures.items)
    (so_far_more c.args.tree.now c.args.event.n k ns edge c.if-edge-event.next c.requires at c.loop-edge.invariant told)

pub returns : goal.returns
returns c =
    let all : c.loop-edge.edge-index ≡ length (edges_of c.args.tree.now) =
    omega (arith, c.loop-edge-test.false, c.loop-edge.auto.edge-index-end, ap length c.deref-edge-items.ensures.value) in
    so_far_all c.args.tree.now c.args.event.n c.loop-edge.edge-index c.loop-edge.told.items all c.loop-edge.invariant
