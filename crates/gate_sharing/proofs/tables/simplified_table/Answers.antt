use Rattle.std.proofs.Common.{◌≡◌, ℕ, ◌+◌, ◌<◌, ◌||◌, Bool, true, false, List, [], ◌∷◌, ◌++◌, map, get_or, length, length-append, sym, ap, ap₂, ◌∙◌, subst, arith}
use Rattle.std.proofs.lemmas.List.{length-map, map-append}
use Rattle.ar_base.specs.Lists.{Stands}
use Rattle.ar_base.proofs.Standing.{stands_get, stands_map}
use Rattle.eq_core.specs.Gates.{Operand as OperandOf, Gate as GateOf, Table}
use Rattle.eq_core.specs.Ordered.{AreBelow, IsOrderedTable}
use Rattle.eq_core.specs.Values.{signed, joint_at, values_at, value_at}
use Rattle.eq_core.specs.Views.{all_needed, gate_of, operand_of, table_of}
use Rattle.eq_core.specs.declared.joints.Gate.{Gate}
use Rattle.eq_core.specs.declared.joints.Operand.{Operand}
use Rattle.eq_core.specs.Marks.{AreConeMarks}
use Rattle.gate_sharing.specs.Images.{image, needed_for, AreImages}
use Rattle.gate_sharing.specs.Simplified.{HaveSameValues}
use Rattle.gate_sharing.proofs.Imaging.{images_none, operands_below, needed_below, images_more, needed_marked, marked_needed, whole_ordered, whole_same}
use Rattle.gate_sharing.proofs.tables.simplified_table.Goals as goal

pub loop-number-init : goal.loop-number-init
loop-number-init c = record {
  long = ap length c.new-images.ensures.items;
  images = subst (λ (z : List Operand). AreImages (table_of c.args.equations.now) c.new-sharing.result (map operand_of z))
      (sym c.new-images.ensures.items) (images_none (table_of c.args.equations.now) c.new-sharing.result);
}

pub next_image-requires-clause-images : goal.next_image-requires-clause-images
next_image-requires-clause-images c =
    let gates = c.args.equations.now.gates.items in
    let n = c.loop-number.number in
    let gate = c.gate-item.result in
    let short : n < length gates = omega (arith, ap length c.deref-gate-items.ensures.value, c.loop-number-test.true) in
    let is : get_or gates n gate ≡ gate = cc in
    let stands : Stands gates n gate = subst (λ (g : Gate). Stands gates n g) is (stands_get gates n gate short) in
    let images = c.loop-number.images.items in
    let long : length (map operand_of images) ≡ n = length-map images operand_of ∙ c.loop-number.invariant.long in
    let same : length (map operand_of images) ≡ length c.deref-in-loop-number-3.result.now =
    length-map images operand_of ∙ ap length (sym c.deref-in-loop-number-3.ensures.value) in
    subst (λ (k : ℕ). AreBelow k (gate_of gate).operands) same
    (operands_below (table_of c.args.equations.now) c.requires.gates (gate_of gate) n (stands_map gate_of gates n gate stands)
    (map operand_of images) long)

pub next_image-requires-clause-below : goal.next_image-requires-clause-below
next_image-requires-clause-below c = λ marked.
    let gates = c.args.equations.now.gates.items in
    let table = table_of c.args.equations.now in
    let n = c.loop-number.number in
    let gate = c.gate-item.result in
    let short : n < length gates = omega (arith, ap length c.deref-gate-items.ensures.value, c.loop-number-test.true) in
    let is : get_or gates n gate ≡ gate = cc in
    let stands : Stands gates n gate = subst (λ (g : Gate). Stands gates n g) is (stands_get gates n gate short) in
    let images = c.loop-number.images.items in
    let long : length (map operand_of images) ≡ n = length-map images operand_of ∙ c.loop-number.invariant.long in
    let conflict : AreConeMarks table.gates table.conflict c.in_ok-conflict.conflict.items =
    subst (λ (z : List Gate). AreConeMarks (map gate_of z) table.conflict c.in_ok-conflict.conflict.items) c.deref.ensures.value c.in_ok-conflict.ensures in
    let top : AreConeMarks table.gates table.top c.in_ok-top.top.items =
    subst (λ (z : List Gate). AreConeMarks (map gate_of z) table.top c.in_ok-top.top.items) c.deref-2.ensures.value c.in_ok-top.ensures in
    let both : (get_or c.in_ok-conflict.conflict.items n false || get_or c.in_ok-top.top.items n false) ≡ true =
    sym (ap₂ (λ (x y : List Bool). get_or x n false || get_or y n false) c.deref-in-loop-number.ensures.value c.deref-in-loop-number-2.ensures.value)
    ∙ sym c.is_marked-needed.ensures ∙ marked in
    let inside : n < length table.gates = omega (arith, short, length-map gates gate_of) in
    subst (λ (z : List Operand). AreBelow (length c.loop-number.sharing)
    (needed_for (all_needed gate.joint) (map operand_of z) (map operand_of gate.operands.items)))
    (sym c.deref-in-loop-number-3.ensures.value)
    (needed_below table c.requires.gates (gate_of gate) n (stands_map gate_of gates n gate stands) c.loop-number.sharing
    (map operand_of images) c.loop-number.invariant.images long
    (marked_needed table c.in_ok-conflict.conflict.items c.in_ok-top.top.items n conflict top inside both))

pub loop-number-preserved : goal.loop-number-preserved
loop-number-preserved c =
    let gates = c.args.equations.now.gates.items in
    let table = table_of c.args.equations.now in
    let n = c.loop-number.number in
    let gate = c.gate-item.result in
    let short : n < length gates = omega (arith, ap length c.deref-gate-items.ensures.value, c.loop-number-test.true) in
    let is : get_or gates n gate ≡ gate = cc in
    let stands : Stands gates n gate = subst (λ (g : Gate). Stands gates n g) is (stands_get gates n gate short) in
    let images = c.loop-number.images.items in
    let long : length (map operand_of images) ≡ n = length-map images operand_of ∙ c.loop-number.invariant.long in
    let conflict : AreConeMarks table.gates table.conflict c.in_ok-conflict.conflict.items =
    subst (λ (z : List Gate). AreConeMarks (map gate_of z) table.conflict c.in_ok-conflict.conflict.items) c.deref.ensures.value c.in_ok-conflict.ensures in
    let top : AreConeMarks table.gates table.top c.in_ok-top.top.items =
    subst (λ (z : List Gate). AreConeMarks (map gate_of z) table.top c.in_ok-top.top.items) c.deref-2.ensures.value c.in_ok-top.ensures in
    let inside : n < length table.gates = omega (arith, short, length-map gates gate_of) in
    let more : map operand_of c.push.new.self.items ≡ map operand_of images ++ operand_of c.in_ok-image.image ∷ [] =
    ap (map operand_of) c.in_ok-push.ensures.items ∙ map-append operand_of images (c.in_ok-image.image ∷ []) in
    record {
      long = ap length c.in_ok-push.ensures.items ∙ length-append images (c.in_ok-image.image ∷ []) ∙ ap (λ (k : ℕ). k + 1) c.loop-number.invariant.long;
      images = subst (λ (z : List OperandOf). AreImages table c.next_image.new.sharing z) (sym more)
          (images_more table c.requires.gates (gate_of gate) n (stands_map gate_of gates n gate stands) c.loop-number.sharing
          c.next_image.new.sharing (map operand_of images) (operand_of c.in_ok-image.image) c.loop-number.invariant.images long
          c.in_ok-image.ensures.grows c.in_ok-image.ensures.below
          (λ i. subst (λ (z : List Operand). (set : List ℕ) → value_at c.next_image.new.sharing (operand_of c.in_ok-image.image) set
          ≡ signed (all_needed gate.joint) (joint_at true set (values_at set c.next_image.new.sharing)
          (needed_for (all_needed gate.joint) (map operand_of z) (map operand_of gate.operands.items))))
          c.deref-in-loop-number-3.ensures.value
          (c.in_ok-image.ensures.made
          (c.is_marked-needed.ensures
          ∙ ap₂ (λ (x y : List Bool). get_or x n false || get_or y n false) c.deref-in-loop-number.ensures.value c.deref-in-loop-number-2.ensures.value
          ∙ needed_marked table c.in_ok-conflict.conflict.items c.in_ok-top.top.items n conflict top inside i))));
    }

-- the new table
as_table : (gates : List Gate) (new : List GateOf) (conflict top : Operand) (images : List OperandOf) (c t : OperandOf)
    → map gate_of gates ≡ new → operand_of conflict ≡ image images c → operand_of top ≡ image images t
    → ◌≡◌ {A = Table} (record { gates = new; conflict = image images c; top = image images t })
    (record { gates = map gate_of gates; conflict = operand_of conflict; top = operand_of top })
as_table gates new conflict top images c t e f g = cc

pub returns-clause-ordered : goal.returns-clause-ordered
returns-clause-ordered c =
    let table = table_of c.args.equations.now in
    let images = map operand_of c.loop-number.images.items in
    let number : c.loop-number.number ≡ length c.args.equations.now.gates.items =
    omega (arith, ap length c.deref-gate-items.ensures.value, c.loop-number-test.false, c.loop-number.auto) in
    let at : length images ≡ length table.gates =
    length-map c.loop-number.images.items operand_of ∙ c.loop-number.invariant.long ∙ number ∙ sym (length-map c.args.equations.now.gates.items gate_of) in
    subst IsOrderedTable
    (as_table c.into_gates.result.items c.loop-number.sharing c.image_of.result c.image_of-2.result images table.conflict table.top
    c.into_gates.ensures.gates
    (c.image_of.ensures ∙ ap (λ (z : List Operand). image (map operand_of z) table.conflict) c.deref-3.ensures.value)
    (c.image_of-2.ensures ∙ ap (λ (z : List Operand). image (map operand_of z) table.top) c.deref-4.ensures.value))
    (whole_ordered table c.loop-number.sharing images c.requires c.loop-number.invariant.images at c.into_gates.ensures.ordered)

pub returns-clause-same : goal.returns-clause-same
returns-clause-same c =
    let table = table_of c.args.equations.now in
    let images = map operand_of c.loop-number.images.items in
    let number : c.loop-number.number ≡ length c.args.equations.now.gates.items =
    omega (arith, ap length c.deref-gate-items.ensures.value, c.loop-number-test.false, c.loop-number.auto) in
    let at : length images ≡ length table.gates =
    length-map c.loop-number.images.items operand_of ∙ c.loop-number.invariant.long ∙ number ∙ sym (length-map c.args.equations.now.gates.items gate_of) in
    subst (HaveSameValues table)
    (as_table c.into_gates.result.items c.loop-number.sharing c.image_of.result c.image_of-2.result images table.conflict table.top
    c.into_gates.ensures.gates
    (c.image_of.ensures ∙ ap (λ (z : List Operand). image (map operand_of z) table.conflict) c.deref-3.ensures.value)
    (c.image_of-2.ensures ∙ ap (λ (z : List Operand). image (map operand_of z) table.top) c.deref-4.ensures.value))
    (whole_same table c.loop-number.sharing images c.requires c.loop-number.invariant.images at)
