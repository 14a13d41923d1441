use Rattle.std.proofs.Common.{◌<◌, Bool, true, length, map, refl, sym, ◌∙◌, subst, arith, true≢false}
use Rattle.std.proofs.lemmas.List.{length-map}
use Rattle.std.proofs.lemmas.Option.{slice_get_read}
use Rattle.ar_base.specs.Lists.{Stands}
use Rattle.ar_base.proofs.Standing.{stands_one, stands_map, stands_within}
use Rattle.eq_core.specs.Views.{gate_of, operand_of}
use Rattle.coherent_cuts.specs.Coherent.{ArePlain}
use Rattle.coherent_cuts.proofs.Folding.{gates_more, gates_all}
use Rattle.coherent_cuts.proofs.coherent.is_coherent.Goals as goal
use Rattle.coherent_cuts.proofs.coherent.is_coherent.Goals.{else-index-via-then-index+else-not-are_plain, else-index-via-else-index}

pub loop-number-init : goal.loop-number-init
loop-number-init c = record { each = λ g gate lt st m. absurd (omega (arith, lt)) }

pub returns-then-not-are_plain : goal.returns-then-not-are_plain
returns-then-not-are_plain c =
    let gates = c.args.gates.now in
    let number = c.loop-number.number in
    let gate = c.index-gates-number.result in
    let marks = c.in_ok-marks.marks.items in
    let stands : Stands gates number gate =
    slice_get_read gates (length gates) number gate refl c.loop-number-test.true c.index-gates-number.is in
    let view = stands_map gate_of gates number gate stands in
    let m = c.in_ok-marks.ensures in
    let inside : number < length marks =
    omega (arith, m.long, length-map gates gate_of, c.loop-number-test.true) in
    let marked : Stands marks number true = subst (λ (b : Bool). Stands marks number b) c.if-index.true
    (slice_get_read marks (length marks) number c.index.result.now refl inside c.index.ensures) in (
      λ e. absurd (true≢false (sym e)),
      λ p. c.if-not-are_plain.ensures.1 (subst (λ os. ArePlain (map operand_of os)) (sym c.deref.ensures.value)
          (p.operands number (gate_of gate) (m.sound number marked) view)),
    )

pub loop-number-preserved : goal.loop-number-preserved
loop-number-preserved c =
    let gates = c.args.gates.now in
    let number = c.loop-number.number in
    let gate = c.index-gates-number.result in
    let marks = c.in_ok-marks.marks.items in
    let stands : Stands gates number gate =
    slice_get_read gates (length gates) number gate refl c.loop-number-test.true c.index-gates-number.is in
    let view = stands_map gate_of gates number gate stands in
    gates_more (map gate_of gates) marks number (gate_of gate) view
    (λ m. elim c.else-index.branch [
      | else-index-via-then-index+else-not-are_plain w ↦
          subst (λ os. ArePlain (map operand_of os)) w.deref.ensures.value (w.if-not-are_plain.ensures.0 refl)
      | else-index-via-else-index w ↦
          let inside = stands_within marks number true m in
          let there = slice_get_read marks (length marks) number c.index.result.now refl inside c.index.ensures in
          absurd (true≢false (stands_one marks number true c.index.result.now m there ∙ w.if-index.false))
    ])
    c.loop-number.invariant

pub returns : goal.returns
returns c =
    let gates = c.args.gates.now in (
      λ e. gates_all (map gate_of gates) (operand_of c.args.root) c.in_ok-marks.marks.items c.loop-number.number
          (omega (arith, length-map gates gate_of, c.loop-number-test.false)) c.in_ok-marks.ensures
          (c.if-not-is_plain.ensures.0 refl) c.loop-number.invariant,
      λ p. refl,
    )
