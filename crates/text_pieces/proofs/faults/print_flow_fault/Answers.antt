use Rattle.std.proofs.Common.{◌<◌, length, ◌∙◌, ap, sym, subst}
use Rattle.ar_io.proofs.Writing.{writes_exit, writes_on, writes_front, writes_as}
use Rattle.ar_meaning.specs.Flows as flows
use Rattle.ar_meaning.specs.TraceText.{flow_fault_text}
use Rattle.flow_propagate.specs.Answers.{fault_of}
use Rattle.flow_propagate.specs.declared.propagation.FlowFault.{FlowFault}
use Rattle.gts_core.specs.declared.system.GtsParts.{GtsParts}
use Rattle.gts_flatten.specs.Flat.{naming_of_parts}
use Rattle.text_pieces.specs.Faults.{IsInRange}
use Rattle.text_pieces.proofs.Ways.{read_stands, place_read}
use Rattle.text_pieces.proofs.faults.print_flow_fault.Goals as goal

pub returns-in-Two : goal.returns-in-Two
returns-in-Two g c =
    writes_as _ _
    (ap (λ (q : GtsParts). flow_fault_text (naming_of_parts q) (flows.Two c.in-Two.x.n)) c.parts-parts.ensures.parts
    ∙ ap (λ (f : FlowFault). flow_fault_text (naming_of_parts c.args.gts.now) (fault_of f)) (sym c.in-Two.is))
    c.about_flow.ensures

pub returns-in-Outside : goal.returns-in-Outside
returns-in-Outside g c =
    writes_as _ _
    (ap (λ (q : GtsParts). flow_fault_text (naming_of_parts q) (flows.Outside c.in-Outside.x.n))
    c.parts-parts.ensures.parts
    ∙ ap (λ (f : FlowFault). flow_fault_text (naming_of_parts c.args.gts.now) (fault_of f)) (sym c.in-Outside.is))
    c.about_flow-in-Outside.ensures

pub returns-in_err-write_text-in-Broken : goal.returns-in_err-write_text-in-Broken
returns-in_err-write_text-in-Broken g c =
    let p = c.parts-parts.result.now in
    let n = c.in-Broken.a.n in
    let e = ap (λ (q : GtsParts). flow_fault_text (naming_of_parts q) (flows.Broken n)) c.parts-parts.ensures.parts
    ∙ ap (λ (f : FlowFault). flow_fault_text (naming_of_parts c.args.gts.now) (fault_of f)) (sym c.in-Broken.is) in
    writes_exit _ _ c.from_residual.ensures.1
    (writes_as _ _ e (writes_front _ _ c.in_err-write_text-in-Broken.ensures))

pub returns-in_err-write_number-in-Broken : goal.returns-in_err-write_number-in-Broken
returns-in_err-write_number-in-Broken g c =
    let p = c.parts-parts.result.now in
    let n = c.in-Broken.a.n in
    let e = ap (λ (q : GtsParts). flow_fault_text (naming_of_parts q) (flows.Broken n)) c.parts-parts.ensures.parts
    ∙ ap (λ (f : FlowFault). flow_fault_text (naming_of_parts c.args.gts.now) (fault_of f)) (sym c.in-Broken.is) in
    writes_exit _ _ c.from_residual-in_err-write_number-in-Broken.ensures.1
    (writes_as _ _ e (writes_on c.in_ok-write_text-in-Broken.ensures (writes_front _ _
    c.in_err-write_number-in-Broken.ensures)))

pub returns-in_err-write_text-in-Broken-2 : goal.returns-in_err-write_text-in-Broken-2
returns-in_err-write_text-in-Broken-2 g c =
    let p = c.parts-parts.result.now in
    let n = c.in-Broken.a.n in
    let e = ap (λ (q : GtsParts). flow_fault_text (naming_of_parts q) (flows.Broken n)) c.parts-parts.ensures.parts
    ∙ ap (λ (f : FlowFault). flow_fault_text (naming_of_parts c.args.gts.now) (fault_of f)) (sym c.in-Broken.is) in
    writes_exit _ _ c.from_residual-in_err-write_text-in-Broken-2.ensures.1
    (writes_as _ _ e (writes_on c.in_ok-write_text-in-Broken.ensures (writes_on
    c.in_ok-write_number-in-Broken.ensures (writes_front _ _ c.in_err-write_text-in-Broken-2.ensures))))

pub returns-in_err-place-in-Broken : goal.returns-in_err-place-in-Broken
returns-in_err-place-in-Broken g c =
    let p = c.parts-parts.result.now in
    let n = c.in-Broken.a.n in
    let e = ap (λ (q : GtsParts). flow_fault_text (naming_of_parts q) (flows.Broken n)) c.parts-parts.ensures.parts
    ∙ ap (λ (f : FlowFault). flow_fault_text (naming_of_parts c.args.gts.now) (fault_of f)) (sym c.in-Broken.is) in
    let inside = subst (λ (q : GtsParts). n < length q.assigns.items) (sym c.parts-parts.ensures.parts)
    (subst (IsInRange c.args.gts.now) c.in-Broken.is c.requires) in
    let at = place_read p n c.index.result.now
    (read_stands p.assigns.items n c.index.result.now inside c.index.ensures) in
    writes_exit _ _ c.from_residual-in_err-place-in-Broken.ensures.1
    (writes_as _ _ e (writes_on c.in_ok-write_text-in-Broken.ensures (writes_on c.in_ok-write_number-in-Broken.ensures
    (writes_on c.in_ok-write_text-in-Broken-2.ensures (writes_front _ _
    (writes_as _ _ at c.in_err-place-in-Broken.ensures))))))

pub returns-in_ok-place-in-Broken : goal.returns-in_ok-place-in-Broken
returns-in_ok-place-in-Broken g c =
    let p = c.parts-parts.result.now in
    let n = c.in-Broken.a.n in
    let e = ap (λ (q : GtsParts). flow_fault_text (naming_of_parts q) (flows.Broken n)) c.parts-parts.ensures.parts
    ∙ ap (λ (f : FlowFault). flow_fault_text (naming_of_parts c.args.gts.now) (fault_of f)) (sym c.in-Broken.is) in
    let inside = subst (λ (q : GtsParts). n < length q.assigns.items) (sym c.parts-parts.ensures.parts)
    (subst (IsInRange c.args.gts.now) c.in-Broken.is c.requires) in
    let at = place_read p n c.index.result.now
    (read_stands p.assigns.items n c.index.result.now inside c.index.ensures) in
    writes_as _ _ e (writes_on c.in_ok-write_text-in-Broken.ensures (writes_on c.in_ok-write_number-in-Broken.ensures
    (writes_on c.in_ok-write_text-in-Broken-2.ensures (writes_on
    (writes_as _ _ at c.in_ok-place-in-Broken.ensures) c.write_text-in-Broken-2.ensures))))
