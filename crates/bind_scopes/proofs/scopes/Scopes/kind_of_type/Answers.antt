use Rattle.std.proofs.Common.{◌≡◌, ◌∙◌, Some, None, ap}
use Rattle.typed_expr.specs.declared.expr.ValueKind.{ValueKind}
use Rattle.domains.specs.declared.Domain.{Domain}
use Rattle.class_table.specs.Members.{type_named}
use Rattle.class_table.specs.declared.tables.TypeBody.TheVariants as types
use Rattle.bind_scopes.proofs.Kinding.{type_kind, no_type_kind}
use Rattle.bind_scopes.proofs.scopes.Scopes.kind_of_type.Goals as goal

pub returns-in-Some-Domain : goal.returns-in-Some-Domain
returns-in-Some-Domain c = λ m units are. rw c.in-Named.is (
    ap (λ (k : ValueKind). Some k) c.kind_of_domain.ensures
    ∙ type_kind m.declared.symbols (type_named m.declared c.in-Named.name.n) c.in-Some-Domain.field-0.now
    c.in-Some-Domain.domain c.in-Some-Domain.field-0-is
    ((rw c.deref.ensures.value at (c.in-Some-Domain.ensures m.declared)) are.is_tree.table.table.holds.types are.types))

pub returns-in-Some-Class : goal.returns-in-Some-Class
returns-in-Some-Class c = λ m units are. rw c.in-Named.is (
    let n : (v : Domain) → Some c.in-Some-Class.field-0.now ≡ Some (types.Domain v) → ⊥ = λ (v : Domain) (e : Some c.in-Some-Class.field-0.now ≡ Some (types.Domain v)). let i = c.in-Some-Class.field-0-is in cc in
    no_type_kind m.declared.symbols (type_named m.declared c.in-Named.name.n) (Some c.in-Some-Class.field-0.now) n
    ((rw c.deref.ensures.value at (c.in-Some-Class.ensures m.declared)) are.is_tree.table.table.holds.types are.types))

pub returns-in-None : goal.returns-in-None
returns-in-None c = λ m units are. rw c.in-Named.is (
    no_type_kind m.declared.symbols (type_named m.declared c.in-Named.name.n) None (λ v e. cc)
    ((rw c.deref.ensures.value at (c.in-None.ensures m.declared)) are.is_tree.table.table.holds.types are.types))
