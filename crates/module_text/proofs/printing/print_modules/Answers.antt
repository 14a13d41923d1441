use Rattle.std.proofs.Common.{◌≡◌, ◌∙◌, List, Err, ap, sym, map, length, refl, subst, arith}
use Rattle.std.proofs.lemmas.Result.{err_from_is_err_and}
use Rattle.ar_base.specs.Lists.{Along}
use Rattle.ar_io.proofs.Writing.{writes_on, writes_front, writes_as}
use Rattle.cut_text.specs.Printed.{forest_edges}
use Rattle.cut_text.proofs.Answering.{failed}
use Rattle.gate_modules.specs.declared.ranges.Module.{Module}
use Rattle.module_text.specs.Arranged.{IsGroupOf, pieces_of, form_pieces}
use Rattle.module_text.specs.declared.arranging.Group.{Group}
use Rattle.module_text.proofs.Pieces.{groups_inside, forms_inside, whole_text}
use Rattle.module_text.proofs.printing.print_modules.Goals as goal

pub groups_of-requires : goal.groups_of-requires
groups_of-requires g c = record { edges = forest_edges c.args.forest.now.trees.items; are = c.in_ok-table.ensures }

pub lines_of_forms-requires : goal.lines_of_forms-requires
lines_of_forms-requires g c = record { edges = forest_edges c.args.forest.now.trees.items; are = c.in_ok-table.ensures }

pub all_groups-requires : goal.all_groups-requires
all_groups-requires g c = groups_inside c.args.gts.now c.args.forest.now.trees.items c.requires
    c.args.short.now.modules.items c.deref-3.result.now
    (subst (λ (z : List Module). Along (IsGroupOf (forest_edges c.args.forest.now.trees.items)) z c.deref-3.result.now)
    c.deref.ensures.value (subst (λ (z : List Group). Along (IsGroupOf (forest_edges c.args.forest.now.trees.items))
    c.deref.result.now z) (sym c.deref-3.ensures.value) (c.in_ok-groups.ensures (forest_edges c.args.forest.now.trees.items) c.in_ok-table.ensures)))

pub forms-requires : goal.forms-requires
forms-requires g c = forms_inside c.args.gts.now c.args.forest.now.trees.items c.requires c.args.short.now.sets.items
    c.deref-4.result.now (ap (map pieces_of) c.deref-4.ensures.value ∙ c.in_ok-lines.ensures (forest_edges c.args.forest.now.trees.items) c.in_ok-table.ensures
    ∙ ap (map (form_pieces (forest_edges c.args.forest.now.trees.items))) c.deref-2.ensures.value)

pub returns-in_err-all_groups : goal.returns-in_err-all_groups
returns-in_err-all_groups g c =
    let r = err_from_is_err_and c.from_residual-in_err-all_groups.result c.from_residual-in_err-all_groups.ensures.1 in
    failed c.from_residual-in_err-all_groups.result (r.1 ∙ ap Err r.2)
    (writes_as _ _ (whole_text c.args.gts.now (forest_edges c.args.forest.now.trees.items) c.args.short.now
    c.deref-3.result.now c.in_ok-lines.lines.items (length c.in_ok-lines.lines.items)
    (subst (λ (z : List Module). Along (IsGroupOf (forest_edges c.args.forest.now.trees.items)) z c.deref-3.result.now)
    c.deref.ensures.value (subst (λ (z : List Group). Along (IsGroupOf (forest_edges c.args.forest.now.trees.items))
    c.deref.result.now z) (sym c.deref-3.ensures.value) (c.in_ok-groups.ensures (forest_edges c.args.forest.now.trees.items) c.in_ok-table.ensures)))
    ((c.in_ok-lines.ensures (forest_edges c.args.forest.now.trees.items) c.in_ok-table.ensures) ∙ ap (map (form_pieces (forest_edges c.args.forest.now.trees.items)))
    c.deref-2.ensures.value) refl) (writes_front _ _ c.in_err-all_groups.ensures))

pub returns-in_err-forms : goal.returns-in_err-forms
returns-in_err-forms g c =
    let r = err_from_is_err_and c.from_residual-in_err-forms.result c.from_residual-in_err-forms.ensures.1 in
    failed c.from_residual-in_err-forms.result (r.1 ∙ ap Err r.2)
    (writes_as _ _ (whole_text c.args.gts.now (forest_edges c.args.forest.now.trees.items) c.args.short.now
    c.deref-3.result.now c.deref-4.result.now (length c.deref-4.result.now)
    (subst (λ (z : List Module). Along (IsGroupOf (forest_edges c.args.forest.now.trees.items)) z c.deref-3.result.now)
    c.deref.ensures.value (subst (λ (z : List Group). Along (IsGroupOf (forest_edges c.args.forest.now.trees.items))
    c.deref.result.now z) (sym c.deref-3.ensures.value) (c.in_ok-groups.ensures (forest_edges c.args.forest.now.trees.items) c.in_ok-table.ensures)))
    (ap (map pieces_of) c.deref-4.ensures.value ∙ c.in_ok-lines.ensures (forest_edges c.args.forest.now.trees.items) c.in_ok-table.ensures
    ∙ ap (map (form_pieces (forest_edges c.args.forest.now.trees.items))) c.deref-2.ensures.value) refl)
    (writes_on c.in_ok-all_groups.ensures (writes_front _ _ c.in_err-forms.ensures)))

pub returns-in_err-last : goal.returns-in_err-last
returns-in_err-last g c =
    let r = err_from_is_err_and c.from_residual-in_err-last.result c.from_residual-in_err-last.ensures.1 in
    failed c.from_residual-in_err-last.result (r.1 ∙ ap Err r.2)
    (writes_as _ _ (whole_text c.args.gts.now (forest_edges c.args.forest.now.trees.items) c.args.short.now c.deref-3.result.now c.deref-4.result.now c.len.result (subst (λ (z : List Module). Along (IsGroupOf (forest_edges c.args.forest.now.trees.items)) z c.deref-3.result.now) c.deref.ensures.value (subst (λ (z : List Group). Along (IsGroupOf (forest_edges c.args.forest.now.trees.items)) c.deref.result.now z) (sym c.deref-3.ensures.value) (c.in_ok-groups.ensures (forest_edges c.args.forest.now.trees.items) c.in_ok-table.ensures))) (ap (map pieces_of) c.deref-4.ensures.value ∙ c.in_ok-lines.ensures (forest_edges c.args.forest.now.trees.items) c.in_ok-table.ensures ∙ ap (map (form_pieces (forest_edges c.args.forest.now.trees.items))) c.deref-2.ensures.value) (let same = ap length c.deref-4.ensures.value in let k : c.len.result ≡ length c.deref-4.result.now = omega (arith, c.len.ensures, c.in_ok-lines.lines.ok, same) in k)) (writes_on c.in_ok-all_groups.ensures (writes_on c.in_ok-forms.ensures c.in_err-last.ensures)))

pub returns : goal.returns
returns g c = writes_as _ _ (whole_text c.args.gts.now (forest_edges c.args.forest.now.trees.items) c.args.short.now c.deref-3.result.now c.deref-4.result.now c.len.result (subst (λ (z : List Module). Along (IsGroupOf (forest_edges c.args.forest.now.trees.items)) z c.deref-3.result.now) c.deref.ensures.value (subst (λ (z : List Group). Along (IsGroupOf (forest_edges c.args.forest.now.trees.items)) c.deref.result.now z) (sym c.deref-3.ensures.value) (c.in_ok-groups.ensures (forest_edges c.args.forest.now.trees.items) c.in_ok-table.ensures))) (ap (map pieces_of) c.deref-4.ensures.value ∙ c.in_ok-lines.ensures (forest_edges c.args.forest.now.trees.items) c.in_ok-table.ensures ∙ ap (map (form_pieces (forest_edges c.args.forest.now.trees.items))) c.deref-2.ensures.value) (let same = ap length c.deref-4.ensures.value in let k : c.len.result ≡ length c.deref-4.result.now = omega (arith, c.len.ensures, c.in_ok-lines.lines.ok, same) in k)) (writes_on c.in_ok-all_groups.ensures (writes_on c.in_ok-forms.ensures c.in_ok-last.ensures))
