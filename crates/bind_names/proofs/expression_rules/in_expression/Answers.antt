use Rattle.std.proofs.Common.{arith}
use Rattle.source_meaning.specs.Tested as s
use Rattle.bind_scopes.specs.Scopes.{everything}
use Rattle.bind_scopes.specs.declared.naming.Sort.TheVariants as sort
use Rattle.bind_scopes.specs.declared.naming.UnitNames.{UnitNames}
use Rattle.bind_scopes.specs.declared.scopes.Scope.TheVariants as scope
use Rattle.bind_scopes.proofs.Kinding.{AreNamesOf}
use Rattle.class_table.specs.Earliest.{nowhere}
use Rattle.hierarchy.proofs.Looking.{unit_within}
use Rattle.bind_names.proofs.Moving.{expression_named, expression_typed}
use Rattle.bind_names.proofs.expression_rules.in_expression.Goals as goal

pub returns-then-unit-len : goal.returns-then-unit-len
returns-then-unit-len c = λ m units u s are at is.
    absurd (let w = unit_within are.is_tree at in let l = c.len.ensures in let t = c.if-unit-len.true in omega (arith, w, l, t))

pub returns-in-Names : goal.returns-in-Names
returns-in-Names c = λ m units u meant are at is. rw c.in-Names.is (
    let names : UnitNames = record {
      scopes = c.args.scopes;
      unit = c.args.unit;
      scope = c.args.scope;
      sort = sort.States;
    } in
    let h : AreNamesOf m units u meant names = record { are = are; at = at; in_scope = is } in
    expression_named h c.args.expr.now c.first_misnamed.result c.first_misnamed.ensures)

pub returns-in-Kinds : goal.returns-in-Kinds
returns-in-Kinds c = λ m units u meant are at is. rw c.in-Kinds.is (
    let names : UnitNames = record {
      scopes = c.args.scopes;
      unit = c.args.unit;
      scope = scope.Everything;
      sort = sort.States;
    } in
    let h : AreNamesOf m units u s.Everything names = record { are = are; at = at; in_scope = everything } in
    expression_typed h c.args.kind c.args.expr.now c.first_mistyped.result c.first_mistyped.ensures)

pub returns-in-Targets : goal.returns-in-Targets
returns-in-Targets c = λ m units u meant are at is. rw c.in-Targets.is (nowhere (λ p b. b))
