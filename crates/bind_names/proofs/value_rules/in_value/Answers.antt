use Rattle.std.proofs.Common.{◌≡◌, sym, refl, subst}
use Rattle.source_meaning.specs.Tested as s
use Rattle.bind_scopes.specs.Scopes.{IsScope}
use Rattle.bind_scopes.specs.declared.scopes.Scope.{Scope}
use Rattle.bind_scopes.proofs.NamedPaths.{kind_one}
use Rattle.bind_names.specs.Owning.{scope_by}
use Rattle.bind_names.proofs.Valued.{value_earliest, scope_is}
use Rattle.bind_names.proofs.value_rules.in_value.Goals as goal
use Rattle.bind_names.proofs.value_rules.in_value.Goals.{in-None, in-Some}

pub returns-in-None-written : goal.returns-in-None-written
returns-in-None-written c = λ m units t are own h kind.
    let w = c.in-None-written.ensures.in_force m units t c.args.value are.is_tree.table.table refl h in let e = w.3 in absurd (cc)

pub returns-in-Some-written : goal.returns-in-Some-written
returns-in-Some-written c = λ m units t are own h kind.
    let w = c.in-Some-written.ensures.in_force m units t c.args.value are.is_tree.table.table refl h in
    let e = kind_one refl (sym w.3) in
    let by : c.match-value.scope ≡ scope_by c.args.own c.args.value.source.setting =
    elim c.match-value.branch [
      | in-None v ↦ rw v.in-None.is v.scope-is
      | in-Some v ↦ rw v.in-Some.is v.scope-is
    ] in
    let scope = subst (λ (z : Scope). IsScope m units w.0.unit z (s.scope_of t.name w.0.setting))
    (sym by) (scope_is m units t c.args.own w.0 c.args.value.source.setting own w.1
    w.2.source.setting_is) in
    value_earliest m c.args.rule t w.0 w.1 c.args.kind kind c.in-Some-written.expr.now e c.in_expression.result
    (c.in_expression.ensures m units w.0.unit (s.scope_of t.name w.0.setting) are w.2.unit scope)
