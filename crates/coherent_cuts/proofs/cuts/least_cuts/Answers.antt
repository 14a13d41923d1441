use Rattle.std.proofs.Common.{◌≡◌, ◌<◌, ◌+◌, Bool, true, length, map, refl, sym, ap, ◌∙◌, subst, arith}
use Rattle.std.proofs.lemmas.List.{length-map}
use Rattle.std.proofs.lemmas.Option.{slice_get_read}
use Rattle.ar_base.specs.Lists.{Stands}
use Rattle.ar_base.proofs.Standing.{stands_one, stands_map}
use Rattle.zdd_nodes.specs.Nodes.{family}
use Rattle.eq_core.specs.Ordered.{AreBelow}
use Rattle.eq_core.specs.Values.{value_at}
use Rattle.eq_core.specs.ValuesInside.{IsBelow}
use Rattle.eq_core.specs.Views.{gate_of, operand_of}
use Rattle.eq_core.proofs.Telling.{place_below}
use Rattle.least_families.specs.Held.{AreLeastHeld}
use Rattle.least_families.proofs.Held.{sound_none}
use Rattle.coherent_cuts.specs.Gates.{AreTabledOperands, EachTabled, IsTabled, HasLeastFirable}
use Rattle.coherent_cuts.proofs.Folding.{IsMaking, making_begins, making_next, gate_tabled, gate_plain, root_tabled, family_kept}
use Rattle.coherent_cuts.proofs.Listing.{least_firable}
use Rattle.coherent_cuts.proofs.cuts.least_cuts.Goals as goal

pub loop-number-init : goal.loop-number-init
loop-number-init c = (
  subst (λ z. AreLeastHeld z c.new-ops.result.families) (sym c.new-memo.ensures) (sound_none c.new-ops.result.families),
  subst (λ z. IsMaking c.args.order c.args.trees.now (map gate_of c.args.gates.now) c.in_ok-marks.marks.items 0 z
      c.new-ops.result) (sym c.new-table.ensures.items)
      (making_begins c.args.order c.args.trees.now (map gate_of c.args.gates.now) c.in_ok-marks.marks.items
      c.new-ops.result),
)

pub marked_family-requires-clause-table : goal.marked_family-requires-clause-table
marked_family-requires-clause-table c =
    subst (λ z. AreTabledOperands z c.loop-number.ops) (sym c.deref.ensures.value) c.loop-number.invariant.1.numbers

pub marked_family-requires-clause-below : goal.marked_family-requires-clause-below
marked_family-requires-clause-below c =
    let gates = c.args.gates.now in
    let number = c.loop-number.number in
    let gate = c.index-gates-number.result in
    let stands : Stands gates number gate =
    slice_get_read gates (length gates) number gate refl c.loop-number-test.true c.index-gates-number.is in
    let at : number ≡ length c.deref.result.now =
    sym c.loop-number.invariant.1.long ∙ ap length (sym c.deref.ensures.value) in
    subst (λ z. AreBelow z (map operand_of gate.operands.items)) at
    (place_below (c.requires.ordered.each number (gate_of gate) (stands_map gate_of gates number gate stands)))

pub marked_family-requires-clause-plain : goal.marked_family-requires-clause-plain
marked_family-requires-clause-plain c = λ e.
    let gates = c.args.gates.now in
    let number = c.loop-number.number in
    let gate = c.index-gates-number.result in
    let marks = c.in_ok-marks.marks.items in
    let stands : Stands gates number gate =
    slice_get_read gates (length gates) number gate refl c.loop-number-test.true c.index-gates-number.is in
    let m = c.in_ok-marks.ensures in
    let inside : number < length marks =
    omega (arith, m.long, length-map gates gate_of, c.loop-number-test.true) in
    let marked : Stands marks number true = subst (λ (b : Bool). Stands marks number b) e
    (slice_get_read marks (length marks) number c.index.result.now refl inside c.index.ensures) in
    gate_plain c.args.order c.args.trees.now (map gate_of gates) (operand_of c.args.root) marks c.requires.ordered
    (subst (λ n. IsBelow n (operand_of c.args.root)) (sym (length-map gates gate_of)) c.requires.root_in) m
    c.requires.coherent number (gate_of gate) (stands_map gate_of gates number gate stands) marked

pub loop-number-preserved : goal.loop-number-preserved
loop-number-preserved c =
    let trees = c.args.trees.now in
    let gates = c.args.gates.now in
    let views = map gate_of gates in
    let root = operand_of c.args.root in
    let marks = c.in_ok-marks.marks.items in
    let m = c.in_ok-marks.ensures in
    let number = c.loop-number.number in
    let gate = c.index-gates-number.result in
    let table = c.loop-number.table.items in
    let stands : Stands gates number gate =
    slice_get_read gates (length gates) number gate refl c.loop-number-test.true c.index-gates-number.is in
    let view = stands_map gate_of gates number gate stands in
    let root_in = subst (λ n. IsBelow n root) (sym (length-map gates gate_of)) c.requires.root_in in
    let inside : number < length marks =
    omega (arith, m.long, length-map gates gate_of, c.loop-number-test.true) in
    let there : Stands marks number c.index.result.now =
    slice_get_read marks (length marks) number c.index.result.now refl inside c.index.ensures in (
      c.in_ok-made.ensures.kept.held,
      subst (λ z. IsMaking c.args.order trees views marks (number + 1) z c.marked_family.new.ops)
          (sym c.in_ok-push.ensures.items)
          (making_next c.args.order trees views root marks c.requires.ordered root_in m number (gate_of gate) table
          c.loop-number.ops c.marked_family.new.ops c.in_ok-made.made view c.loop-number.invariant.1
          c.in_ok-made.ensures.kept.grows c.in_ok-made.ensures.operand
          (λ mk. c.in_ok-made.ensures.family (stands_one marks number c.index.result.now true there mk) views
          (subst (λ z. EachTabled c.args.order trees views z c.loop-number.ops (map operand_of gate.operands.items))
          (sym c.deref.ensures.value)
          (gate_tabled c.args.order trees views root marks c.requires.ordered root_in m number (gate_of gate) table
          c.loop-number.ops view mk c.loop-number.invariant.1)))),
    )

pub returns : goal.returns
returns c =
    let order = c.args.order in
    let trees = c.args.trees.now in
    let gates = c.args.gates.now in
    let views = map gate_of gates in
    let root = operand_of c.args.root in
    let marks = c.in_ok-marks.marks.items in
    let m = c.in_ok-marks.ensures in
    let root_in = subst (λ n. IsBelow n root) (sym (length-map gates gate_of)) c.requires.root_in in
    let tabled = subst (λ z. IsTabled order trees views z c.loop-number.ops root) (sym c.deref-2.ensures.value)
    (root_tabled order trees views root marks c.requires.ordered root_in m c.loop-number.number
    c.loop-number.table.items c.loop-number.ops c.loop-number.invariant.1) in
    let t = c.exclusive_pairs.new.ops in
    let v = c.without.new.self in
    let whole = family_kept order trees views root c.operand_family.new.ops t c.in_ok-whole.whole.n
    c.in_ok-pairs.ensures.grows (c.in_ok-whole.ensures.family views tabled) in
    let d = c.in_ok-root.ensures.drawn.ok in
    subst (λ z. HasLeastFirable order trees views root (record { store = z; root = c.in_ok-root.root }))
    (sym c.into_store.ensures.same)
    (record {
      sound = c.in_ok-root.ensures.sound;
      in_store = d.0;
      are = λ forest b.
          least_firable order trees c.requires.numbered c.requires.apart c.requires.different forest b
          (value_at views root) (family t c.in_ok-whole.whole.n) (family t c.in_ok-pairs.pairs.n) whole.least
          c.in_ok-pairs.ensures.pairs (family v c.in_ok-root.root.n) d.1
          (c.in_ok-root.ensures.sound.families c.in_ok-root.root.n d.0);
    })
