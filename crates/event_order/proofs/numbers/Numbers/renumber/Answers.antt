use Rattle.std.proofs.Common.{◌≡◌, ◌<◌, ◌≤◌, ◌+◌, [], ◌∷◌, ◌++◌, length, get_or, refl, sym, ap, ◌∙◌, subst, arith}
use Rattle.std.proofs.lemmas.List.{take_more}
use Rattle.ar_base.proofs.Standing.{stands_get}
use Rattle.diagram_steps.specs.Trees.{edges_of}
use Rattle.diagram_steps.specs.declared.trees.NumberedEdge.{NumberedEdge}
use Rattle.event_order.specs.Renumbered.{IsNamed}
use Rattle.event_order.proofs.Taken.{IsRenumbering, renumbering_more, renumbered_all}
use Rattle.event_order.proofs.Taking.{edge_fresh, names_step, names_long}
use Rattle.event_order.proofs.numbers.Numbers.renumber.Goals as goal

-- what is read past the end
abbrev no_edge : NumberedEdge
no_edge = record { event = record { n = 0; of = record {} }; from = 0 }

pub number-requires-clause-fresh : goal.number-requires-clause-fresh
number-requires-clause-fresh c =
    let tree = c.args.tree.now in
    let edges = edges_of tree in
    let i = c.loop-edge.edge-index in
    let names = c.args.self.now.names.items in
    let now = c.loop-edge.self.names.items in
    let value = c.deref-edge-items.ensures.value in
    let inside : i < length edges = subst (λ es. i < length es) value c.loop-edge-test.true in
    let fresh = edge_fresh names now tree i (get_or edges i no_edge) c.loop-edge.invariant.0 c.requires.different
    c.requires.fresh (stands_get edges i no_edge inside) in
    λ n. fresh (subst (λ es. IsNamed now (get_or es i no_edge).event.n) value n)

pub loop-edge-preserved : goal.loop-edge-preserved
loop-edge-preserved c =
    let tree = c.args.tree.now in
    let edges = edges_of tree in
    let i = c.loop-edge.edge-index in
    let names = c.args.self.now.names.items in
    let now = c.loop-edge.self.names.items in
    let value = c.deref-edge-items.ensures.value in
    let inside : i < length edges = subst (λ es. i < length es) value c.loop-edge-test.true in
    let a = get_or edges i no_edge in
    let read : get_or c.deref-edge-items.result.now i no_edge ≡ a = ap (λ es. get_or es i no_edge) value in
    let named = c.in_ok-event.ensures.names ∙ ap (λ (e : NumberedEdge). now ++ e.event ∷ []) read in
    let b : NumberedEdge = record {
      event = c.in_ok-event.event;
      from = (get_or c.deref-edge-items.result.now i no_edge).from;
    } in
    let more = renumbering_more names tree i now c.loop-edge.edges.items c.loop-edge.invariant.2 a
    (stands_get edges i no_edge inside)
    (names_long names now edges i c.loop-edge.invariant.0 (omega (arith, inside))) b c.in_ok-event.ensures.next
    (ap (λ (e : NumberedEdge). e.from) read) in (
      names_step names now c.number.new.self.names.items edges i a c.loop-edge.invariant.0 named
          (take_more edges i no_edge inside),
      c.in_ok-event.ensures.numbers,
      subst (λ ns. IsRenumbering names tree (i + 1) ns c.push.new.self.items) (sym named)
          (subst (λ es. IsRenumbering names tree (i + 1) (now ++ a.event ∷ []) es) (sym c.in_ok-push.ensures.items) more),
    )

pub returns-clause-renumbered : goal.returns-clause-renumbered
returns-clause-renumbered c =
    let tree = c.args.tree.now in
    let value = c.deref-edge-items.ensures.value in
    let i = c.loop-edge.edge-index in
    let high : length (edges_of tree) ≤ i = subst (λ es. length es ≤ i) value c.loop-edge-test.false in
    let low : i ≤ length (edges_of tree) = subst (λ es. i ≤ length es) value c.loop-edge.auto.edge-index-end in
    (renumbered_all c.args.self.now.names.items tree i c.loop-edge.self.names.items c.loop-edge.edges.items
    (record { edges = c.loop-edge.edges }) refl high low c.loop-edge.invariant.2).0
