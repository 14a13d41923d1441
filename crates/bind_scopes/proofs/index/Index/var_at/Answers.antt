use Rattle.std.proofs.Common.{ℕ, Some, None, Option, option_map, sym, subst}
use Rattle.ar_base.specs.Numbers.{VarId}
use Rattle.hierarchy.specs.Units.{numbers}
use Rattle.hierarchy.specs.Walks.{is_variable}
use Rattle.hierarchy.specs.Listing.{variables}
use Rattle.hierarchy.specs.Tie.{IsVariableNode, AnswersThing}
use Rattle.hierarchy.specs.Finding.{FindsNode}
use Rattle.hierarchy.specs.declared.tree.VarNode.{VarNode}
use Rattle.hierarchy.proofs.Looking.{thing_answer}
use Rattle.bind_scopes.proofs.index.Index.var_at.Goals as goal

pub returns-in_err-unit : goal.returns-in_err-unit
returns-in_err-unit c = λ m units u t s.
    subst (λ (a : Option VarId). AnswersThing m (variables m units) is_variable u c.args.first
    (numbers c.args.names.now) (option_map (λ (v : VarId). v.n) a)) (sym c.from_residual.ensures)
    (c.in_err-unit.ensures m units u t s is_variable)

pub returns-in_err-place : goal.returns-in_err-place
returns-in_err-place c = λ m units u t s.
    let f : FindsNode (λ (d : VarNode). d.node) c.args.tree.now.variables.items c.in_ok-unit.unit.n c.in_ok-unit.name.n
    None = subst (λ (r : Option ℕ). FindsNode (λ (d : VarNode). d.node) c.args.tree.now.variables.items
    c.in_ok-unit.unit.n c.in_ok-unit.name.n r) (sym c.in_err-place.ensures)
    (c.requires.index.variables c.in_ok-unit.unit.n c.in_ok-unit.name.n) in
    subst (λ (a : Option VarId). AnswersThing m (variables m units) is_variable u c.args.first
    (numbers c.args.names.now) (option_map (λ (v : VarId). v.n) a)) (sym c.from_residual-in_err-place.ensures)
    (thing_answer t.table.kept t.are_units is_variable (λ (d : VarNode). d.node) (IsVariableNode m units)
    (λ t d i. (i.given, i.node)) c.args.tree.now.variables.items t.variables_are
    (c.in_ok-unit.ensures m units u t s) None f)

pub returns : goal.returns
returns c = λ m units u t s.
    let f : FindsNode (λ (d : VarNode). d.node) c.args.tree.now.variables.items c.in_ok-unit.unit.n c.in_ok-unit.name.n
    (Some c.in_ok-place.place) = subst
    (λ (r : Option ℕ). FindsNode (λ (d : VarNode). d.node) c.args.tree.now.variables.items c.in_ok-unit.unit.n
    c.in_ok-unit.name.n r) (sym c.in_ok-place.ensures)
    (c.requires.index.variables c.in_ok-unit.unit.n c.in_ok-unit.name.n) in
    subst (λ (n : ℕ). AnswersThing m (variables m units) is_variable u c.args.first (numbers c.args.names.now) (Some n))
    (sym c.new.ensures)
    (thing_answer t.table.kept t.are_units is_variable (λ (d : VarNode). d.node) (IsVariableNode m units)
    (λ t d i. (i.given, i.node)) c.args.tree.now.variables.items t.variables_are
    (c.in_ok-unit.ensures m units u t s) (Some c.in_ok-place.place) f)
