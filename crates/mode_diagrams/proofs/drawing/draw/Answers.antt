use Rattle.std.proofs.Common.{◌≡◌, ◌+◌, ◌<◌, ⊎_elim, inl, inr, Err, true, false, map, length, refl, sym, ap, ◌∙◌, subst, arith}
use Rattle.std.proofs.lemmas.List.{length-map}
use Rattle.std.proofs.lemmas.Result.{err_from_is_err_and}
use Rattle.std.proofs.lemmas.Option.{slice_get_read, get_or_from_slice_get}
use Rattle.ar_base.specs.Lists.{Stands}
use Rattle.ar_base.proofs.Results.{ok_map}
use Rattle.ar_base.proofs.Standing.{stands_get, stands_map}
use Rattle.eq_core.specs.Ordered.{AreBelow}
use Rattle.eq_core.specs.ValuesInside.{IsBelow}
use Rattle.eq_core.specs.Views.{gate_of, operand_of}
use Rattle.eq_core.proofs.Telling.{place_below}
use Rattle.mode_nodes.proofs.Allowed.{GrowsWithin-none, GrowsWithin-then}
use Rattle.diagram_steps.specs.Joints.{AreTabled}
use Rattle.mode_diagrams.specs.Agreement.{IsOperandReady, AreReady}
use Rattle.mode_diagrams.specs.Lacking.LacksSome.{own, named}
use Rattle.mode_diagrams.proofs.Placing.{gates_none, gates_more, some_lacks}
use Rattle.mode_diagrams.proofs.Tabling.{IsDrawing, drawing_begins, gate_ready, root_ready, drawing_next}
use Rattle.mode_diagrams.proofs.drawing.draw.Goals as goal

pub loop-number-init : goal.loop-number-init
loop-number-init c = record {
  grows = GrowsWithin-none c.args.store.now;
  known = gates_none c.args.trees.now (map gate_of c.args.gates.now) c.args.marks.now;
  drawing = subst (λ z. IsDrawing c.args.trees.now (map gate_of c.args.gates.now) c.args.marks.now 0 z c.args.store.now)
      (sym c.new-table.ensures.items)
      (drawing_begins c.args.trees.now (map gate_of c.args.gates.now) c.args.marks.now c.args.store.now);
}

pub gate_diagram-requires-clause-table : goal.gate_diagram-requires-clause-table
gate_diagram-requires-clause-table c =
    subst (λ z. AreTabled z c.loop-number.store.store) (sym c.deref.ensures.value) c.loop-number.invariant.drawing.numbers

pub gate_diagram-requires-clause-below : goal.gate_diagram-requires-clause-below
gate_diagram-requires-clause-below c =
    let gates = c.args.gates.now in
    let number = c.loop-number.number in
    let gate = c.index-gates-number.result in
    let stands : Stands gates number gate =
    slice_get_read gates (length gates) number gate refl c.loop-number-test.true c.index-gates-number.is in
    let at : number ≡ length c.deref.result.now =
    sym c.loop-number.invariant.drawing.long ∙ ap length (sym c.deref.ensures.value) in
    subst (λ z. AreBelow z (map operand_of gate.operands.items)) at
    (place_below (c.requires.ordered.each number (gate_of gate) (stands_map gate_of gates number gate stands)))

pub loop-number-preserved : goal.loop-number-preserved
loop-number-preserved c =
    let trees = c.args.trees.now in
    let gates = c.args.gates.now in
    let views = map gate_of gates in
    let root = operand_of c.args.root in
    let marks = c.args.marks.now in
    let number = c.loop-number.number in
    let gate = c.index-gates-number.result in
    let table = c.loop-number.table.items in
    let stands : Stands gates number gate =
    slice_get_read gates (length gates) number gate refl c.loop-number-test.true c.index-gates-number.is in
    let view = stands_map gate_of gates number gate stands in
    record {
      grows = GrowsWithin-then c.args.store.now c.loop-number.store c.gate_diagram.new.store c.loop-number.invariant.grows
          c.in_ok-drawn.ensures.grows;
      known = gates_more trees views marks number (gate_of gate) view
          (λ m. c.in_ok-drawn.ensures.known (get_or_from_slice_get marks number true false m)) c.loop-number.invariant.known;
      drawing = subst (λ z. IsDrawing trees views marks (number + 1) z c.gate_diagram.new.store) (sym c.in_ok-push.ensures.items)
          (drawing_next trees views root marks c.requires.closed number (gate_of gate) table c.loop-number.store
          c.gate_diagram.new.store c.in_ok-drawn.drawn view c.requires.ordered c.loop-number.invariant.drawing
          c.in_ok-drawn.ensures.grows c.in_ok-drawn.ensures.number
          (λ m. c.in_ok-drawn.ensures.agrees (get_or_from_slice_get marks number true false m) views
          (subst (λ z. AreReady trees views z c.loop-number.store (map operand_of gate.operands.items))
          (sym c.deref.ensures.value)
          (gate_ready trees views root marks c.requires.closed number (gate_of gate) table c.loop-number.store view m
          c.loop-number.invariant.drawing))));
    }

pub returns-in_err-drawn-clause-beyond : goal.returns-in_err-drawn-clause-beyond
returns-in_err-drawn-clause-beyond c = λ e.
    let gates = c.args.gates.now in
    let marks = c.args.marks.now in
    let number = c.loop-number.number in
    let gate = c.index-gates-number.result in
    let stands : Stands gates number gate =
    slice_get_read gates (length gates) number gate refl c.loop-number-test.true c.index-gates-number.is in
    let view = stands_map gate_of gates number gate stands in
    let inside : number < length marks =
    omega (arith, c.loop-number-test.true, c.requires.closed.long, length-map gates gate_of) in
    let p = err_from_is_err_and c.from_residual-in_err-drawn.result c.from_residual-in_err-drawn.ensures.1 in
    let x = c.in_err-drawn.ensures.beyond (ap Err (sym p.2) ∙ sym p.1 ∙ e) in
    ⊎_elim
    (λ f. inl f)
    (λ l. inr (named number (gate_of gate)
    (subst (Stands marks number) x.0 (stands_get marks number false inside)) view l))
    x.1

pub operand_diagram-requires-clause-table : goal.operand_diagram-requires-clause-table
operand_diagram-requires-clause-table c =
    subst (λ z. AreTabled z c.loop-number.store.store) (sym c.deref-2.ensures.value) c.loop-number.invariant.drawing.numbers

pub operand_diagram-requires-clause-below : goal.operand_diagram-requires-clause-below
operand_diagram-requires-clause-below c =
    let end : length c.args.gates.now ≡ length c.deref-2.result.now =
    omega (
      arith,
      c.loop-number.auto.number-end,
      c.loop-number-test.false,
      c.loop-number.invariant.drawing.long,
      ap length c.deref-2.ensures.value,
    ) in
    subst (λ n. IsBelow n (operand_of c.args.root)) end c.requires.root_in

pub returns-clause-agrees : goal.returns-clause-agrees
returns-clause-agrees c = ok_map c.operand_diagram.result
    (λ n f. f (map gate_of c.args.gates.now)
    (subst (λ z. IsOperandReady c.args.trees.now (map gate_of c.args.gates.now) z c.loop-number.store (operand_of c.args.root))
    (sym c.deref-2.ensures.value)
    (root_ready c.args.trees.now (map gate_of c.args.gates.now) (operand_of c.args.root) c.args.marks.now
    c.requires.closed c.loop-number.number c.loop-number.table.items c.loop-number.store
    c.loop-number.invariant.drawing)))
    c.operand_diagram.ensures.agrees

pub returns-clause-beyond : goal.returns-clause-beyond
returns-clause-beyond c = λ e. ⊎_elim (λ f. inl f) (λ l. inr (own l)) (c.operand_diagram.ensures.beyond e)

pub returns-clause-known : goal.returns-clause-known
returns-clause-known c = ok_map c.operand_diagram.result
    (λ n f. some_lacks c.args.trees.now (map gate_of c.args.gates.now) (operand_of c.args.root) c.args.marks.now
    c.loop-number.number
    (omega (arith, c.loop-number.auto.number-end, c.loop-number-test.false, length-map c.args.gates.now gate_of)) f
    c.loop-number.invariant.known)
    c.operand_diagram.ensures.known
