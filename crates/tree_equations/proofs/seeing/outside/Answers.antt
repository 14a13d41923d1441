use Rattle.std.proofs.Common.{List, sym, ap, ◌∙◌, subst}
use Rattle.domains.specs.declared.Value.{Value}
use Rattle.eq_core.specs.Views.{operand_of}
use Rattle.eq_build.specs.Entries.{one_of_alls}
use Rattle.eq_build.specs.Views.{gates_in, row_at, terms_in, MakesOperand}
use Rattle.gts_core.specs.View.{assign_of}
use Rattle.eq_build.specs.Steps.{Sees_outside, outside_terms}
use Rattle.eq_build.specs.Steps as t
use Rattle.tree_equations.specs.Answers.{TooMany, signs_in, row_in}
use Rattle.tree_equations.proofs.Determined.{out_one}
use Rattle.tree_equations.proofs.Giving.{operand_gives, gives_on}
use Rattle.tree_equations.proofs.Flowing.{Assigned}
use Rattle.tree_equations.proofs.Stopping.{outside_stops}
use Rattle.tree_equations.proofs.seeing.outside.Goals as goal

pub returns-in_err-assigned : goal.returns-in_err-assigned
returns-in_err-assigned c = λ x e.
    let read = row_at c.args.rows.now in
    let g = gates_in c.args.gates.now.items in
    let a = assign_of c.args.assign.now in
    gives_on operand_of (λ o h. Sees_outside read g (x, a) o h) (TooMany (Assigned read g a)) c.from_residual.result
    c.in_err-assigned.field-0.0 c.build_assign.new.gates.items (outside_stops read g a x) c.from_residual.ensures.1
    c.in_err-assigned.ensures

pub returns : goal.returns
returns c = λ x e.
    let read = row_at c.args.rows.now in
    let g = gates_in c.args.gates.now.items in
    let h = gates_in c.build_assign.new.gates.items in
    let a = assign_of c.args.assign.now in
    let r = c.in_ok-assigned.assigned in
    let terms = ap terms_in c.deref.ensures.value ∙ c.in_ok-terms.ensures
    ∙ ap (λ (z : List Value). outside_terms z (signs_in r.conditions) (row_in r.entries)) (sym e) in
    let m = one_of_alls h (outside_terms x.domain (signs_in r.conditions) (row_in r.entries)) in
    let made : Sees_outside read g (x, a) m.operand m.gates = t.sees_outside c.in_ok-assigned.ensures.0 in
    operand_gives m (Sees_outside read g (x, a)) c.one_of_alls.result c.one_of_alls.new.gates.items made
    (λ y k d. (out_one read g _ k (x, a) _ y made d).1)
    (subst (λ z. MakesOperand (one_of_alls h z) c.one_of_alls.result c.one_of_alls.new.gates.items) terms
    c.one_of_alls.ensures)
