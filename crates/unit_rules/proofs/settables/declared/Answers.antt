use Rattle.std.proofs.Common.{◌∙◌, sym}
use Rattle.unit_rules.proofs.Entries.{kind_domain, kind_class, kind_none}
use Rattle.unit_rules.proofs.settables.declared.Goals as goal

pub returns-in-Some-Domain : goal.returns-in-Some-Domain
returns-in-Some-Domain c = λ d s holds known.
    let f = rw (c.deref.ensures.value, c.in-Some-Domain.field-0-is) at (c.in-Some-Domain.ensures d) in
    rw c.in-Named.is (c.variable-in-Some-Domain.ensures
    ∙ sym (kind_domain d.symbols s _ c.args.settings.now _ _ (f holds.types known)))

pub returns-in-Some-Class : goal.returns-in-Some-Class
returns-in-Some-Class c = λ d s holds known.
    let f = rw (c.deref.ensures.value, c.in-Some-Class.field-0-is) at (c.in-Some-Class.ensures d) in
    rw c.in-Named.is (sym (kind_class d.symbols s _ c.args.settings.now _ _ (f holds.types known)))

pub returns-in-None : goal.returns-in-None
returns-in-None c = λ d s holds known.
    let f = rw c.deref.ensures.value at (c.in-None.ensures d) in
    rw c.in-Named.is (sym (kind_none d.symbols s _ c.args.settings.now _ (f holds.types known)))
