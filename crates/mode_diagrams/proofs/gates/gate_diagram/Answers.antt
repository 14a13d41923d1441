use Rattle.std.proofs.Common.{rules, ◌≡◌, ℕ, ◌<◌, ⊎_elim, inl, inr, Bool, Err, List, [], ◌∷◌, get_or, length, length-append, map, sym, ap, ◌∙◌, subst, arith}
use Rattle.std.proofs.lemmas.List.{length-map}
use Rattle.std.proofs.lemmas.Result.{err_from_is_err_and}
use Rattle.ar_base.specs.Lists.{Stands}
use Rattle.ar_base.proofs.Standing.{stands_get, stands_map}
use Rattle.eq_core.specs.declared.joints.Operand.{Operand}
use Rattle.eq_core.specs.declared.joints.Operand.TheVariants.{Always}
use Rattle.eq_core.specs.Views.{all_needed, operand_of}
use Rattle.diagram_steps.specs.Joints.{IsDiagramJoint}
use Rattle.mode_diagrams.proofs.Joining.{AreDrawn, drawn_more, drawn_joint, drawn_known}
use Rattle.mode_diagrams.proofs.gates.gate_diagram.Goals as goal

-- the operand at a place of the gate
place_of : (items ds : List Operand) (k : ℕ) → ds ≡ items → k < length ds
    → Stands (map operand_of items) k (operand_of (get_or ds k Always))
place_of items ds k e inside =
    subst (λ os. Stands (map operand_of os) k (operand_of (get_or ds k Always))) e
    (stands_map operand_of ds k (get_or ds k Always) (stands_get ds k Always inside))

pub operand_diagram-requires-clause-below : goal.operand_diagram-requires-clause-below
operand_diagram-requires-clause-below c =
    let ds = c.deref-operand-items.result.now in
    let k = c.loop-operand.operand-index in
    c.requires.below.each (operand_of (get_or ds k Always)) (record {
      place = k;
      stands = place_of c.args.gate.now.operands.items ds k c.deref-operand-items.ensures.value c.loop-operand-test.true;
    })

pub returns-in_err-part-clause-beyond : goal.returns-in_err-part-clause-beyond
returns-in_err-part-clause-beyond c = λ e. (
  c.if-not-marked.false,
  let ds = c.deref-operand-items.result.now in
      let k = c.loop-operand.operand-index in
      let p = err_from_is_err_and c.from_residual.result c.from_residual.ensures.1 in
      ⊎_elim
      (λ f. inl f)
      (λ l. inr (record {
        operand = operand_of (get_or ds k Always);
        one = record {
          place = k;
          stands = place_of c.args.gate.now.operands.items ds k c.deref-operand-items.ensures.value c.loop-operand-test.true;
        };
        lacks = l;
      }))
      (c.in_err-part.ensures.beyond (ap Err (sym p.2) ∙ sym p.1 ∙ e)),
)

pub loop-operand-preserved : goal.loop-operand-preserved
loop-operand-preserved c =
    let trees = c.args.trees.now in
    let table = c.args.table.now in
    let items = c.args.gate.now.operands.items in
    let ds = c.deref-operand-items.result.now in
    let k = c.loop-operand.operand-index in
    let o = operand_of (get_or ds k Always) in
    let ns = c.loop-operand.parts.items in
    let long = c.loop-operand.invariant.long in
    let at : Stands (map operand_of items) (length ns) o =
    subst (λ j. Stands (map operand_of items) j o) (sym long)
    (place_of items ds k c.deref-operand-items.ensures.value c.loop-operand-test.true) in
    record {
      long = ap length c.in_ok-push.ensures.items ∙ omega (arith, long, length-append ns (c.in_ok-part.part ∷ []));
      drawn = subst (λ z. AreDrawn trees table c.args.store.now (map operand_of items) z c.operand_diagram.new.store)
          (sym c.in_ok-push.ensures.items)
          (drawn_more trees table c.args.store.now (map operand_of items) ns c.loop-operand.store
          c.operand_diagram.new.store o c.in_ok-part.part at c.loop-operand.invariant.drawn c.in_ok-part.ensures.grows
          c.in_ok-part.ensures.number c.in_ok-part.ensures.agrees c.in_ok-part.ensures.known);
    }

pub returns-clause-agrees : goal.returns-clause-agrees
returns-clause-agrees c = λ _ gates ready.
    let items = c.args.gate.now.operands.items in
    let ns = c.loop-operand.parts.items in
    let all : length ns ≡ length (map operand_of items) =
    omega (
      arith,
      c.loop-operand-test.false,
      c.loop-operand.auto.operand-index-end,
      c.loop-operand.invariant.long,
      ap length c.deref-operand-items.ensures.value,
      length-map items operand_of,
    ) in
    let both : c.eq.result ≡ all_needed c.args.gate.now.joint = search rules in
    let t = c.joined.new.store in
    let r = c.in_ok-joined.field-0.n in
    drawn_joint c.args.trees.now c.args.table.now c.args.store.now (all_needed c.args.gate.now.joint)
    (map operand_of items) ns c.loop-operand.store t r all c.loop-operand.invariant.drawn c.in_ok-joined.ensures.grows
    (subst (λ (b : Bool). IsDiagramJoint b c.loop-operand.store ns t.store r) both
    (subst (λ z. IsDiagramJoint c.eq.result c.loop-operand.store z t.store r) c.deref.ensures.value c.in_ok-joined.ensures.joint))
    gates ready

pub returns-clause-known : goal.returns-clause-known
returns-clause-known c = λ _ l.
    let items = c.args.gate.now.operands.items in
    let ns = c.loop-operand.parts.items in
    let all : length ns ≡ length (map operand_of items) =
    omega (
      arith,
      c.loop-operand-test.false,
      c.loop-operand.auto.operand-index-end,
      c.loop-operand.invariant.long,
      ap length c.deref-operand-items.ensures.value,
      length-map items operand_of,
    ) in
    drawn_known c.args.trees.now c.args.table.now c.args.store.now (map operand_of items) ns c.loop-operand.store all
    c.loop-operand.invariant.drawn l
