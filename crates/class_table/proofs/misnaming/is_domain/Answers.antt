use Rattle.std.proofs.Common.{sym, ◌∙◌, ap, Some}
use Rattle.class_table.specs.declared.types.Kind.{Kind}
use Rattle.class_table.proofs.Kindly.{kind_domain, kind_other, kind_none}
use Rattle.class_table.proofs.misnaming.is_domain.Goals as goal

pub returns-in-Some-Domain : goal.returns-in-Some-Domain
returns-in-Some-Domain c = λ d known. rw c.in-Named.is
    (kind_domain _ _ (known.each c.in-Named.name.n)
    (sym c.kind.ensures ∙ (c.in-Some-Domain.is ∙ ap (λ (k : Kind). Some k) c.in-Some-Domain.field-0-is)))

pub returns-in-Some-Class : goal.returns-in-Some-Class
returns-in-Some-Class c = λ d known. rw c.in-Named.is
    (kind_other _ _ c.in-Some-Class.field-0-0 (known.each c.in-Named.name.n)
    (sym c.kind.ensures ∙ (c.in-Some-Class.is ∙ ap (λ (k : Kind). Some k) c.in-Some-Class.field-0-is)))

pub returns-in-None : goal.returns-in-None
returns-in-None c = λ d known. rw c.in-Named.is
    (kind_none _ _ (known.each c.in-Named.name.n) (sym c.kind.ensures ∙ c.in-None.is))
