use Rattle.std.proofs.Common.{ℕ, Option, sym, subst}
use Rattle.hierarchy.specs.Units.{numbers}
use Rattle.hierarchy.specs.Walks.{is_parameter}
use Rattle.hierarchy.specs.Listing.{parameters}
use Rattle.hierarchy.specs.Tie.{IsParameterNode, AnswersThing}
use Rattle.hierarchy.specs.Finding.{FindsNode}
use Rattle.hierarchy.specs.declared.tree.ParNode.{ParNode}
use Rattle.hierarchy.proofs.Looking.{thing_answer}
use Rattle.bind_scopes.proofs.index.Index.par_at.Goals as goal

pub returns-in_err-unit : goal.returns-in_err-unit
returns-in_err-unit c = λ m units u t s.
    subst (λ (a : Option ℕ). AnswersThing m (parameters m units) is_parameter u c.args.first (numbers c.args.names.now)
    a) (sym c.from_residual.ensures) (c.in_err-unit.ensures m units u t s is_parameter)

pub returns : goal.returns
returns c = λ m units u t s.
    let unit = c.in_ok-unit.unit.n in
    let name = c.in_ok-unit.name.n in
    let f = subst (λ (r : Option ℕ). FindsNode (λ (d : ParNode). d.node) c.args.tree.now.parameters.items unit name r)
    (sym c.place_of.ensures) (c.requires.index.parameters unit name) in
    thing_answer t.table.kept t.are_units is_parameter (λ (d : ParNode). d.node) (IsParameterNode m units)
    (λ t d i. (i.given, i.node)) c.args.tree.now.parameters.items t.parameters_are
    (c.in_ok-unit.ensures m units u t s) c.place_of.result f
