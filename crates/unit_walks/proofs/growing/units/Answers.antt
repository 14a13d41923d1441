use Rattle.std.proofs.Common.{[], ◌∙◌, ap, length, arith}
use Rattle.std.proofs.lemmas.Result.{err_from_is_err_and}
use Rattle.std.proofs.lemmas.List.{length-map}
use Rattle.unit_walks.specs.UnfoldingInside.{memory}
use Rattle.std.proofs.Common.{map}
use Rattle.unit_walks.specs.declared.growing.Node.{Node}
use Rattle.unit_walks.proofs.Fronts.{refused, unfolded}
use Rattle.unit_walks.proofs.growing.units.Goals as goal

pub returns-in_err-forms-clause-limit : goal.returns-in_err-forms-clause-limit
returns-in_err-forms-clause-limit c = λ m k. let p = err_from_is_err_and c.from_residual.result c.from_residual.ensures.1 in rw (p.1, p.2) memory

pub returns-in_err-table-clause-limit : goal.returns-in_err-table-clause-limit
returns-in_err-table-clause-limit c = λ m k. let p = err_from_is_err_and c.from_residual-in_err-table.result c.from_residual-in_err-table.ensures.1 in rw (p.1, p.2) memory

pub returns-in_err-outlines-clause-limit : goal.returns-in_err-outlines-clause-limit
returns-in_err-outlines-clause-limit c = λ m k. let p = err_from_is_err_and c.from_residual-in_err-outlines.result c.from_residual-in_err-outlines.ensures.1 in rw (p.1, p.2) memory

pub returns-in_err-grow_unit-clause-limit : goal.returns-in_err-grow_unit-clause-limit
returns-in_err-grow_unit-clause-limit c = λ m k.
    let f = c.in_ok-forms.ensures m k in
    let t = c.in_ok-table.ensures m k.table.main in
    let z = c.limit.ensures in
    let p = err_from_is_err_and c.from_residual-in_err-grow_unit.result c.from_residual-in_err-grow_unit.ensures.1 in
    rw (p.1, p.2) (refused m c.in_err-grow_unit.field-0.0 c.new-nodes.result.items c.new-nodes.ensures.items
    (c.in_err-grow_unit.ensures.limit m [] f t t.main (omega (arith, z))))

pub returns-clause-ok : goal.returns-clause-ok
returns-clause-ok c = λ m k.
    let f = c.in_ok-forms.ensures m k in
    let t = c.in_ok-table.ensures m k.table.main in
    let z = c.limit.ensures in
    unfolded m c.in_ok-table.table c.new-nodes.result.items _ c.new-nodes.ensures.items c.in_ok-grow_unit.ensures.small
    (c.in_ok-outlines.ensures ∙ ap (map (λ (n : Node). n.outline)) c.deref.ensures.value) f
    (c.in_ok-grow_unit.ensures.ok m [] f t t.main (omega (arith, z)))

pub returns-clause-few : goal.returns-clause-few
returns-clause-few c =
    let small = c.in_ok-grow_unit.ensures.small in
    let many = ap length (c.in_ok-outlines.ensures ∙ ap (map (λ (n : Node). n.outline)) c.deref.ensures.value)
    ∙ length-map _ _ in
    (omega arith, small)
