use Rattle.std.proofs.Common.{map, sym, subst}
use Rattle.std.proofs.lemmas.List.{length-map}
use Rattle.eq_core.specs.ValuesInside.{IsBelow}
use Rattle.eq_core.specs.Views.{gate_of, operand_of}
use Rattle.mode_diagrams.specs.Agreement.{AreClosedMarks}
use Rattle.gate_diagrams.proofs.ByModes.{few_small, marks_closed, enough_kept, listed_or_not}
use Rattle.gate_diagrams.proofs.listed.listed_at.Goals as goal

pub draw-requires-clause-closed : goal.draw-requires-clause-closed
draw-requires-clause-closed c =
    let gates = map gate_of c.args.gates.now in
    subst (AreClosedMarks gates (operand_of c.args.root)) (sym c.deref.ensures.value)
    (marks_closed gates (operand_of c.args.root) c.in_ok-marks.marks.items c.requires.ordered
    (subst (λ n. IsBelow n (operand_of c.args.root)) (sym (length-map c.args.gates.now gate_of)) c.requires.root_in)
    c.in_ok-marks.ensures)

pub draw-requires-clause-small : goal.draw-requires-clause-small
draw-requires-clause-small c = few_small c.args.trees.now c.requires.small

pub list_sets-requires-clause-small : goal.list_sets-requires-clause-small
list_sets-requires-clause-small c = few_small c.args.trees.now c.requires.small

pub returns : goal.returns
returns c =
    let enough = enough_kept c.args.order c.args.trees.now c.in_ok-diagrams.diagrams c.draw.new.store
    c.in_ok-drawn.ensures.grows c.in_ok-diagrams.ensures.enough in
    listed_or_not c.args.order c.args.trees.now (map gate_of c.args.gates.now) (operand_of c.args.root)
    c.draw.new.store c.in_ok-drawn.drawn.n enough c.in_ok-drawn.ensures.agrees c.list_sets.result c.list_sets.ensures.sound
    c.list_sets.ensures.in_store c.list_sets.ensures.sets

pub list_sets-requires-clause-paid : goal.list_sets-requires-clause-paid
list_sets-requires-clause-paid c =
    (enough_kept c.args.order c.args.trees.now c.in_ok-diagrams.diagrams c.draw.new.store
    c.in_ok-drawn.ensures.grows c.in_ok-diagrams.ensures.enough).short
