use Rattle.std.proofs.Common.{◌≡◌, List, ap, ◌∙◌, subst}
use Rattle.eq_core.specs.Views.{operand_of}
use Rattle.eq_build.specs.Entries.{Entry, one_of_alls}
use Rattle.eq_build.specs.Views.{gates_in, row_at, entries_in, terms_in, MakesOperand}
use Rattle.eq_build.proofs.Reading.{row_here}
use Rattle.gts_core.specs.View.{assign_of}
use Rattle.eq_build.specs.Steps.{Sees_broken, broken_terms}
use Rattle.eq_build.specs.Steps as t
use Rattle.tree_equations.specs.Answers.{TooMany, signs_in, row_in}
use Rattle.tree_equations.proofs.Determined.{broken_one}
use Rattle.tree_equations.proofs.Giving.{operand_gives, gives_on}
use Rattle.tree_equations.proofs.Flowing.{Assigned}
use Rattle.tree_equations.proofs.Stopping.{broken_stops}
use Rattle.tree_equations.proofs.seeing.breaks.Goals as goal

pub returns-in_err-assigned : goal.returns-in_err-assigned
returns-in_err-assigned c =
    let read = row_at c.args.rows.now in
    let g = gates_in c.args.gates.now.items in
    let a = assign_of c.args.assign.now in
    gives_on operand_of (λ o h. Sees_broken read g a o h) (TooMany (Assigned read g a)) c.from_residual.result
    c.in_err-assigned.field-0.0 c.build_assign.new.gates.items (broken_stops read g a) c.from_residual.ensures.1
    c.in_err-assigned.ensures

pub returns : goal.returns
returns c =
    let read = row_at c.args.rows.now in
    let g = gates_in c.args.gates.now.items in
    let h = gates_in c.build_assign.new.gates.items in
    let a = assign_of c.args.assign.now in
    let n = c.args.assign.now.target.n in
    let r = c.in_ok-assigned.assigned in
    let row : entries_in c.deref.result.now ≡ read n = ap entries_in c.deref.ensures.value
    ∙ ap row_in c.index-rows-assign.is ∙ row_here c.args.rows.now n c.index-rows-assign.result c.requires.under in
    let terms = ap terms_in c.deref-2.ensures.value ∙ c.in_ok-terms.ensures
    ∙ ap (λ (z : List Entry). broken_terms (signs_in r.conditions) (row_in r.entries) z) row in
    let m = one_of_alls h (broken_terms (signs_in r.conditions) (row_in r.entries) (read n)) in
    let made : Sees_broken read g a m.operand m.gates = t.sees_broken c.in_ok-assigned.ensures.0 in
    operand_gives m (Sees_broken read g a) c.one_of_alls.result c.one_of_alls.new.gates.items made
    (λ y k d. (broken_one read g _ k a _ y made d).1)
    (subst (λ z. MakesOperand (one_of_alls h z) c.one_of_alls.result c.one_of_alls.new.gates.items) terms
    c.one_of_alls.ensures)
