use Rattle.std.proofs.Common.{refl}
use Rattle.source_meaning.specs.Tested as s
use Rattle.bind_scopes.specs.Scopes.{everything}
use Rattle.bind_scopes.specs.declared.naming.Sort.TheVariants as sort
use Rattle.bind_scopes.specs.declared.naming.UnitNames.{UnitNames}
use Rattle.bind_scopes.specs.declared.scopes.Scope.TheVariants as scope
use Rattle.bind_scopes.proofs.Kinding.{AreNamesOf}
use Rattle.ar_syntax.specs.declared.instructions.Instr.{out-Instr}
use Rattle.bind_names.proofs.Moving.{inside_named, inside_typed, inside_asserted}
use Rattle.bind_names.proofs.expression_rules.in_assertion.Goals as goal

pub returns-in-Names : goal.returns-in-Names
returns-in-Names c = λ m units u are at. rw c.in-Names.is (
    let names : UnitNames = record {
      scopes = c.args.scopes;
      unit = c.args.unit;
      scope = scope.Everything;
      sort = sort.Flows;
    } in
    let h : AreNamesOf m units u s.Everything names = record { are = are; at = at; in_scope = everything } in
    inside_named h (out-Instr c.args.instr.now) c.misnamed_inside.result c.misnamed_inside.ensures)

pub returns-in-Kinds : goal.returns-in-Kinds
returns-in-Kinds c = λ m units u are at. rw c.in-Kinds.is (
    let names : UnitNames = record {
      scopes = c.args.scopes;
      unit = c.args.unit;
      scope = scope.Everything;
      sort = sort.Flows;
    } in
    let h : AreNamesOf m units u s.Everything names = record { are = are; at = at; in_scope = everything } in
    inside_typed h (out-Instr c.args.instr.now) c.mistyped_inside.result c.mistyped_inside.ensures)

pub returns-in-Targets : goal.returns-in-Targets
returns-in-Targets c = λ m units u are at. rw c.in-Targets.is (
    let names : UnitNames = record {
      scopes = c.args.scopes;
      unit = c.args.unit;
      scope = scope.Everything;
      sort = sort.Flows;
    } in
    let h : AreNamesOf m units u s.Everything names = record { are = are; at = at; in_scope = everything } in
    inside_asserted h refl (out-Instr c.args.instr.now) c.first_breach-found.result c.first_breach-found.ensures)
