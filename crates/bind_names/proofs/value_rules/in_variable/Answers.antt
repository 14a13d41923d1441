use Rattle.std.proofs.Common.{Option, IfSome, ◌∙◌, subst}
use Rattle.ar_base.specs.declared.places.Place.{Place}
use Rattle.typed_expr.specs.declared.expr.ValueKind.{ValueKind}
use Rattle.hierarchy.specs.declared.tree.Attribute.{Attribute}
use Rattle.bind_names.specs.Testing.{IsTested}
use Rattle.bind_names.proofs.value_rules.in_variable.Goals as goal

pub returns-in-Some : goal.returns-in-Some
returns-in-Some c = record {
  tested = λ h. subst (λ (o : Option (Attribute × ValueKind × Option Place)). IfSome o
      (IsTested c.args.scopes.now c.args.rule)) c.in-Some.is h;
  value = c.is_same_value.ensures c.if-is_same_value.true;
  kind = c.is_same_kind.ensures c.if-is_same_kind.true ∙ c.kind_of_domain-kind.ensures;
}

pub returns-in_default-clause-tested : goal.returns-in_default-clause-tested
returns-in_default-clause-tested c = λ h. record {
  place = λ m units t are own h kind. c.in_value-place.ensures m units t are own h kind;
}
