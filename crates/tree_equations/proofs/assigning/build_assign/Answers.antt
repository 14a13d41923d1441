use Rattle.std.proofs.Common.{subst}
use Rattle.eq_build.specs.Views.{gates_in, row_at}
use Rattle.gts_core.specs.View.{assign_of, condition_of}
use Rattle.std.proofs.Common.{List, Bool, map}
use Rattle.ar_base.specs.Numbers.{VarId}
use Rattle.typed_expr.specs.declared.expr.Expr.{Expr}
use Rattle.eq_build.specs.Steps.{Builds_conditions}
use Rattle.eq_build.specs.Steps as t
use Rattle.tree_equations.specs.Answers.{TooMany, assignment_parts, signs_in}
use Rattle.tree_equations.proofs.Giving.{gives_on}
use Rattle.tree_equations.proofs.Flowing.{Assigned, assign_first, assign_second}
use Rattle.tree_equations.proofs.assigning.build_assign.Goals as goal

pub returns-in_err-conditions : goal.returns-in_err-conditions
returns-in_err-conditions c =
    let read = row_at c.args.rows.now in
    let g = gates_in c.args.gates.now.items in
    let a = assign_of c.args.assign.now in
    gives_on assignment_parts (Assigned read g a)
    (TooMany (λ os h. Builds_conditions read g (map condition_of c.deref.result.now) os h))
    c.from_residual.result c.in_err-conditions.field-0.0 c.conditions.new.gates.items
    (λ n. assign_first read g a (subst (λ (z : List (Expr VarId × Bool)). TooMany
    (λ os h. Builds_conditions read g (map condition_of z) os h)) c.deref.ensures.value n))
    c.from_residual.ensures.1 c.in_err-conditions.ensures

pub returns-in_err-entries : goal.returns-in_err-entries
returns-in_err-entries c =
    let read = row_at c.args.rows.now in
    let g = gates_in c.args.gates.now.items in
    let a = assign_of c.args.assign.now in
    let h = gates_in c.conditions.new.gates.items in
    let os = signs_in c.in_ok-conditions.conditions in
    let first = subst (λ (z : List (Expr VarId × Bool)). Builds_conditions read g (map condition_of z) os h)
    c.deref.ensures.value c.in_ok-conditions.ensures.0 in
    gives_on assignment_parts (Assigned read g a) _ c.from_residual-in_err-entries.result c.in_err-entries.field-0.0
    c.built.new.gates.items (assign_second read g a os h first) c.from_residual-in_err-entries.ensures.1
    c.in_err-entries.ensures

pub returns : goal.returns
returns c =
    let read = row_at c.args.rows.now in
    let g = gates_in c.args.gates.now.items in
    let h = gates_in c.conditions.new.gates.items in
    let os = signs_in c.in_ok-conditions.conditions in
    let first = subst (λ (z : List (Expr VarId × Bool)). Builds_conditions read g (map condition_of z) os h)
    c.deref.ensures.value c.in_ok-conditions.ensures.0 in
    (t.builds first c.in_ok-entries.ensures.0, c.in_ok-entries.ensures.1)
