use Rattle.std.proofs.Common.{◌<◌, ◌∷◌, List, suc, true, get_or, length, drop, ap, ◌∙◌, sym, subst}
use Rattle.std.proofs.lemmas.List.{get_or_default}
use Rattle.eq_core.specs.Gates.{EventIs, all_of}
use Rattle.eq_build.specs.Entries.{Built}
use Rattle.eq_build.specs.BuildsInside.{most_gates}
use Rattle.eq_build.specs.Views.{gates_in}
use Rattle.eq_build.proofs.Growing.{longer_on}
use Rattle.eq_build.proofs.Places.{item_next}
use Rattle.eq_build.proofs.Stopping.{stops_up, entries_passed_on}
use Rattle.mode_trees.specs.Views.{edge_row}
use Rattle.mode_trees.specs.declared.forests.Edge.{Edge}
use Rattle.eq_build.specs.Steps.{modes_of, entered, not_left}
use Rattle.tree_equations.specs.Answers.{edges_in, tree_in, plain}
use Rattle.tree_equations.proofs.Rising.{entered_more, edge_stops}
use Rattle.tree_equations.proofs.modes.tree_modes.Goals as goal

pub returns-in_err-first : goal.returns-in_err-first
returns-in_err-first c =
    let tree = c.args.tree.now in
    let g = gates_in c.args.gates.now.items in
    let all = edges_in tree.edges.items in
    let fault = c.in_err-first.field-0.0 in
    entries_passed_on (modes_of (tree_in tree) g) c.from_residual.result fault c.mode.new.gates.items
    c.from_residual.ensures.1
    (stops_up fault
    (λ l. longer_on (entered_more all all (all_of g (not_left tree.first all)).gates)
    (subst (λ (z : List Edge). most_gates < length (all_of g (not_left tree.first (edges_in z))).gates)
    c.deref.ensures.value l))
    c.in_err-first.ensures)

pub returns-in_err-operand : goal.returns-in_err-operand
returns-in_err-operand c =
    let tree = c.args.tree.now in
    let g = gates_in c.args.gates.now.items in
    let h = gates_in c.loop-edge.gates.items in
    let all = edges_in tree.edges.items in
    let fault = c.in_err-operand.field-0.0 in
    let i = c.loop-edge.edge-index in
    let es = c.deref-edge-items.result.now in
    let items = c.deref-edge-items.ensures.value in
    let e = get_or es i _ in
    let left = item_next es i e c.loop-edge-test.true (get_or_default es i _ _ c.loop-edge-test.true) in
    let same = ap (λ (b : Built). b.gates) c.loop-edge.invariant.same
    ∙ ap (λ (z : List Edge). (entered all (edges_in (drop i z)) h).gates) (sym items)
    ∙ ap (λ (z : List Edge). (entered all (edges_in z) h).gates) left in
    entries_passed_on (modes_of (tree_in tree) g) c.from_residual-in_err-operand.result fault
    c.mode-in-loop-edge.new.gates.items c.from_residual-in_err-operand.ensures.1
    (stops_up fault
    (λ l. edge_stops most_gates all (edge_row plain e) (edges_in (drop (suc i) es)) h (modes_of (tree_in tree) g).gates
    same
    (subst (λ (z : List Edge). most_gates < length
    (all_of h (EventIs e.event.n true ∷ not_left e.to (edges_in z))).gates)
    c.deref-in-loop-edge.ensures.value l))
    c.in_err-operand.ensures)
