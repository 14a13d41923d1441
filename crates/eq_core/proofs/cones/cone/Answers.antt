use Rattle.std.proofs.Common.{◌≡◌, ◌-◌, ◌<◌, true, false, [], ◌∷◌, map, length, replicate, refl, sym, ap, ◌∙◌, subst, arith}
use Rattle.std.proofs.lemmas.List.{length-map, length-replicate, with_items_is}
use Rattle.std.proofs.lemmas.Option.{slice_get_read}
use Rattle.ar_base.specs.Lists.{Stands}
use Rattle.ar_base.proofs.Standing.{stands_map}
use Rattle.eq_core.specs.Ordered.{AreBelow}
use Rattle.eq_core.specs.Views.{gate_of, operand_of}
use Rattle.eq_core.specs.Marks.{MarksOperands}
use Rattle.eq_core.proofs.Marking.{IsMarking, all_below, marking_begins, marking_passes, marking_on, marking_ends}
use Rattle.eq_core.proofs.cones.cone.Goals as goal

pub loop-left-init : goal.loop-left-init
loop-left-init c =
    let gates = c.args.gates.now in
    let long : length (map gate_of gates) ≡ length gates = length-map gates gate_of in
    let none = c.in_ok-marks.marks.items in
    let begun : none ≡ replicate (length (map gate_of gates)) false =
    c.in_ok-marks.ensures.items_if_clones_equal (λ y e. e) ∙ ap (λ n. replicate n false) (sym long) in
    let kept : length c.mark.new.marks ≡ c.in_ok-marks.marks.len =
    c.mark.ensures.long ∙ ap length c.deref_mut.ensures.value ∙ sym c.in_ok-marks.marks.ok.0 in
    subst (λ ms. IsMarking (map gate_of gates) (operand_of c.args.root) (length gates) ms)
    (sym (with_items_is c.in_ok-marks.marks c.mark.new.marks kept))
    (subst (λ n. IsMarking (map gate_of gates) (operand_of c.args.root) n c.mark.new.marks) long
    (marking_begins (map gate_of gates) (operand_of c.args.root) none c.mark.new.marks begun
    (ap length begun ∙ length-replicate (length (map gate_of gates)) false)
    (subst (λ z. MarksOperands (operand_of c.args.root ∷ []) z c.mark.new.marks) c.deref_mut.ensures.value c.mark.ensures)))

pub index-requires : goal.index-requires
index-requires c =
    let i = c.loop-left.invariant in
    omega (arith, i.left_in, i.long, length-map c.args.gates.now gate_of, c.loop-left-test.true, c.loop-left.marks.ok)

pub bounds-gates-left : goal.bounds-gates-left
bounds-gates-left c =
    let i = c.loop-left.invariant in
    omega (arith, i.left_in, length-map c.args.gates.now gate_of, c.loop-left-test.true)

pub mark_all-requires : goal.mark_all-requires
mark_all-requires c =
    let i = c.loop-left.invariant in
    let gates = c.args.gates.now in
    let l = c.loop-left.left - 1 in
    let gate = c.index-gates-left.result in
    let short : l < length gates = omega (arith, i.left_in, length-map gates gate_of, c.loop-left-test.true) in
    let stands : Stands gates l gate = slice_get_read gates (length gates) l gate refl short c.index-gates-left.is in
    let same : gate.operands.items ≡ c.deref.result.now =
    ap (λ g. g.operands.items) c.index-gates-left.is ∙ sym c.deref.ensures.value in
    let long : length c.deref_mut-then-index.result.now ≡ length (map gate_of gates) =
    ap length c.deref_mut-then-index.ensures.value ∙ i.long in
    subst (λ os. AreBelow (length c.deref_mut-then-index.result.now) (map operand_of os)) same
    (all_below (map gate_of gates) l (length c.deref_mut-then-index.result.now) (gate_of gate) c.requires.ordered
    (stands_map gate_of gates l gate stands) (omega (arith, long, length-map gates gate_of, short)))

pub loop-left-preserved-then-index : goal.loop-left-preserved-then-index
loop-left-preserved-then-index c =
    let i = c.loop-left.invariant in
    let gates = c.args.gates.now in
    let l = c.loop-left.left - 1 in
    let gate = c.index-gates-left.result in
    let marks = c.loop-left.marks.items in
    let short : l < length gates = omega (arith, i.left_in, length-map gates gate_of, c.loop-left-test.true) in
    let stands : Stands gates l gate = slice_get_read gates (length gates) l gate refl short c.index-gates-left.is in
    let same : gate.operands.items ≡ c.deref.result.now =
    ap (λ g. g.operands.items) c.index-gates-left.is ∙ sym c.deref.ensures.value in
    let inside : l < length marks = omega (arith, i.long, length-map gates gate_of, short) in
    let marked : Stands marks l true = subst (λ b. Stands marks l b) c.if-index.true
    (slice_get_read marks (length marks) l c.index.result.now refl inside c.index.ensures) in
    let kept : length c.mark_all.new.marks ≡ c.loop-left.marks.len =
    c.mark_all.ensures.long ∙ ap length c.deref_mut-then-index.ensures.value ∙ sym c.loop-left.marks.ok.0 in
    subst (λ ms. IsMarking (map gate_of gates) (operand_of c.args.root) l ms)
    (sym (with_items_is c.loop-left.marks c.mark_all.new.marks kept))
    (marking_on (map gate_of gates) (operand_of c.args.root) c.requires.ordered c.loop-left.left l
    (omega (arith, c.loop-left-test.true)) marks i
    (gate_of gate) c.mark_all.new.marks (stands_map gate_of gates l gate stands) marked
    (subst (λ os. MarksOperands (map operand_of os) marks c.mark_all.new.marks) (sym same)
    (subst (λ z. MarksOperands (map operand_of c.deref.result.now) z c.mark_all.new.marks) c.deref_mut-then-index.ensures.value
    c.mark_all.ensures)))

pub loop-left-preserved : goal.loop-left-preserved
loop-left-preserved c =
    let i = c.loop-left.invariant in
    let gates = c.args.gates.now in
    let l = c.loop-left.left - 1 in
    let marks = c.loop-left.marks.items in
    let inside : l < length marks = omega (arith, i.left_in, i.long, c.loop-left-test.true) in
    let unset : Stands marks l false = subst (λ b. Stands marks l b) c.if-index.false
    (slice_get_read marks (length marks) l c.index.result.now refl inside c.index.ensures) in
    marking_passes (map gate_of gates) (operand_of c.args.root) c.requires.ordered c.loop-left.left l
    (omega (arith, c.loop-left-test.true)) marks i unset

pub returns : goal.returns
returns c =
    let zero : c.loop-left.left ≡ 0 = omega (arith, c.loop-left-test.false) in
    marking_ends (map gate_of c.args.gates.now) (operand_of c.args.root) c.loop-left.marks.items
    (subst (λ n. IsMarking (map gate_of c.args.gates.now) (operand_of c.args.root) n c.loop-left.marks.items) zero
    c.loop-left.invariant)
