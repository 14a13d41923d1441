use Rattle.std.proofs.Common.{ℕ, List, length, sym, subst, arith, Some, None, Option}
use Rattle.std.specs.List.Sorted.{IsNonDecreasingBy}
use Rattle.ar_base.proofs.Standing.{stands_within}
use Rattle.hierarchy.specs.Units.{numbers}
use Rattle.hierarchy.specs.Walks.{is_parameter}
use Rattle.hierarchy.specs.Listing.{parameters}
use Rattle.hierarchy.specs.Tie.{IsParameterNode, AnswersThing}
use Rattle.hierarchy.specs.Finding.{FindsNode}
use Rattle.hierarchy.specs.declared.tree.ParNode.{ParNode}
use Rattle.hierarchy.proofs.Looking.{nodes_rise, thing_answer, place_fits}
use Rattle.hierarchy.proofs.lookups.par_at.Goals as goal

pub returns-in_err-unit : goal.returns-in_err-unit
returns-in_err-unit c = λ m units u t s.
    subst (λ (a : Option ℕ). AnswersThing m (parameters m units) is_parameter u c.args.first (numbers c.args.names.now)
    a) (sym c.from_residual.ensures) (c.in_err-unit.ensures m units u t s is_parameter)

pub place_of_parameter-requires : goal.place_of_parameter-requires
place_of_parameter-requires c =
    let t = c.requires.tree.is_tree in let m = c.requires.tree.model in let units = c.requires.tree.units in
    subst (λ (xs : List ParNode). IsNonDecreasingBy (λ (d : ParNode). d.node.unit.n) xs) (sym c.deref.ensures.value)
    (nodes_rise t.table.kept t.are_units is_parameter (λ (d : ParNode). d.node) (IsParameterNode m units)
    (λ t d i. (i.given, i.node)) c.args.tree.now.parameters.items t.parameters_are)

pub returns-in_err-place : goal.returns-in_err-place
returns-in_err-place c = λ m units u t s.
    let f = subst (λ (xs : List ParNode). FindsNode (λ (d : ParNode). d.node) xs c.in_ok-unit.unit.n c.in_ok-unit.name.n
    None) c.deref.ensures.value c.in_err-place.ensures in
    subst (λ (a : Option ℕ). AnswersThing m (parameters m units) is_parameter u c.args.first (numbers c.args.names.now)
    a) (sym c.from_residual-in_err-place.ensures)
    (thing_answer t.table.kept t.are_units is_parameter (λ (d : ParNode). d.node) (IsParameterNode m units)
    (λ t d i. (i.given, i.node)) c.args.tree.now.parameters.items t.parameters_are
    (c.in_ok-unit.ensures m units u t s) None f)

pub overflow_cast-result : goal.overflow_cast-result
overflow_cast-result c =
    let f = subst (λ (xs : List ParNode). FindsNode (λ (d : ParNode). d.node) xs c.in_ok-unit.unit.n c.in_ok-unit.name.n
    (Some c.in_ok-place.place)) c.deref.ensures.value c.in_ok-place.ensures in
    let w = stands_within c.args.tree.now.parameters.items c.in_ok-place.place f.0 f.1 in
    let few = c.requires.tree.is_tree.parameters_few in
    place_fits c.in_ok-place.place (length c.args.tree.now.parameters.items) w (omega (arith, few))

pub returns : goal.returns
returns c = λ m units u t s.
    let f = subst (λ (xs : List ParNode). FindsNode (λ (d : ParNode). d.node) xs c.in_ok-unit.unit.n c.in_ok-unit.name.n
    (Some c.in_ok-place.place)) c.deref.ensures.value c.in_ok-place.ensures in
    thing_answer t.table.kept t.are_units is_parameter (λ (d : ParNode). d.node) (IsParameterNode m units)
    (λ t d i. (i.given, i.node)) c.args.tree.now.parameters.items t.parameters_are
    (c.in_ok-unit.ensures m units u t s) (Some c.in_ok-place.place) f
