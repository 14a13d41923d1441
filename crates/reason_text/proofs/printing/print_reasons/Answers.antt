use Rattle.std.proofs.Common.{List, Err, sym, ap, ◌∙◌, subst}
use Rattle.std.proofs.lemmas.Result.{err_from_is_err_and}
use Rattle.gts_core.specs.View.{net_of}
use Rattle.gts_core.specs.declared.system.GtsParts.{GtsParts}
use Rattle.gts_flatten.specs.Flat.{naming_of_parts}
use Rattle.ar_io.proofs.Writing.{writes_as}
use Rattle.flow_reasons.specs.Answers.{reasons_of, AreOfState}
use Rattle.flow_reasons.specs.declared.reason.Reason.{Reason}
use Rattle.reason_text.specs.Answers.{told_lines, HaveAssigns, AreToldVariables, observed}
use Rattle.reason_text.specs.Texts.{IsReasonText}
use Rattle.reason_text.proofs.ToldLines.{have_assigns, lines_are, failed, line_as}
use Rattle.reason_text.proofs.printing.print_reasons.Goals as goal

pub told-requires-clause-reasons : goal.told-requires-clause-reasons
told-requires-clause-reasons g c =
    subst (λ (z : List Reason). AreOfState c.args.gts.now z) (sym c.deref.ensures.value)
    (record { values = c.args.state.now.values.items; are = c.in_ok-found.ensures.are })

pub told_lines-requires : goal.told_lines-requires
told_lines-requires g c =
    subst (λ (z : GtsParts). HaveAssigns z c.deref-3.result.now) (sym c.parts.ensures.parts)
    (subst (λ (z : List Reason). HaveAssigns c.args.gts.now z) (sym c.deref-3.ensures.value)
    (have_assigns c.args.gts.now c.args.state.now.values.items c.in_ok-found.found.items c.in_ok-found.ensures.are))

pub returns-in_err-told_lines : goal.returns-in_err-told_lines
returns-in_err-told_lines g c =
    let p = c.args.gts.now in
    let values = c.args.state.now.values.items in
    let found = c.in_ok-found.found.items in
    let are = c.in_ok-found.ensures.are in
    let told = c.in_ok-told.told.items in
    let names = naming_of_parts p in
    let observer = observed p c.args.observer in
    let h = subst (λ (z : List Reason). AreToldVariables p (reasons_of z) observer told) c.deref.ensures.value
    c.in_ok-told.ensures in
    let is : IsReasonText names (net_of p) values observer (told_lines names told (reasons_of found)) =
    record {
      reasons = reasons_of found;
      are_reasons = are;
      lines = lines_are p values found are names observer told h;
    } in
    let e = line_as p c.parts.result.now told c.deref-2.result.now found c.deref-3.result.now c.parts.ensures.parts
    c.deref-2.ensures.value c.deref-3.ensures.value in
    let r = err_from_is_err_and c.from_residual-in_err-told_lines.result c.from_residual-in_err-told_lines.ensures.1 in
    failed (IsReasonText names (net_of p) values observer) c.from_residual-in_err-told_lines.result (r.1 ∙ ap Err r.2)
    is
    (writes_as _ _ e c.in_err-told_lines.ensures)

pub returns : goal.returns
returns g c =
    let p = c.args.gts.now in
    let values = c.args.state.now.values.items in
    let found = c.in_ok-found.found.items in
    let are = c.in_ok-found.ensures.are in
    let told = c.in_ok-told.told.items in
    let names = naming_of_parts p in
    let observer = observed p c.args.observer in
    let h = subst (λ (z : List Reason). AreToldVariables p (reasons_of z) observer told) c.deref.ensures.value
    c.in_ok-told.ensures in
    let is : IsReasonText names (net_of p) values observer (told_lines names told (reasons_of found)) =
    record {
      reasons = reasons_of found;
      are_reasons = are;
      lines = lines_are p values found are names observer told h;
    } in
    let e = line_as p c.parts.result.now told c.deref-2.result.now found c.deref-3.result.now c.parts.ensures.parts
    c.deref-2.ensures.value c.deref-3.ensures.value in
    (told_lines names told (reasons_of found), is, writes_as _ _ e c.in_ok-told_lines.ensures)
