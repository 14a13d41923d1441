use Rattle.hierarchy.specs.TypeDomains.{boolean, named}
use Rattle.instantiate.specs.Values.{has, every_whole, no_domain}
use Rattle.instantiate.proofs.Domained.{found_declared, found_class, found_none, same_domain}
use Rattle.instantiate.proofs.domains_of.domain_of.Goals as goal

pub returns-in-Boolean : goal.returns-in-Boolean
returns-in-Boolean c = λ d holds known. rw c.in-Boolean.is (has boolean)

pub returns-in-Integer : goal.returns-in-Integer
returns-in-Integer c = λ d holds known. rw c.in-Integer.is every_whole

pub returns-in_ok-copy-in-Some-Domain : goal.returns-in_ok-copy-in-Some-Domain
returns-in_ok-copy-in-Some-Domain c = λ d holds known.
    let b = rw c.deref.ensures.value at (c.in-Some-Domain.ensures d) in
    let w = found_declared d.symbols _ c.in-Some-Domain.field-0.now c.in-Some-Domain.domain c.in-Some-Domain.field-0-is
    (b holds.types known) in
    rw c.in-Named.is (has (named {x = c.in-Named.name} w.1
    (same_domain d.symbols w.0 c.in_ok-copy-in-Some-Domain.ensures w.2)))

pub returns-in-Some-Class : goal.returns-in-Some-Class
returns-in-Some-Class c = λ d holds known.
    let b = rw c.deref.ensures.value at (c.in-Some-Class.ensures d) in
    rw c.in-Named.is (no_domain {x = c.in-Named.name}
    (found_class d.symbols _ c.in-Some-Class.field-0.now _ c.in-Some-Class.field-0-is (b holds.types known)))

pub returns-in-None : goal.returns-in-None
returns-in-None c = λ d holds known.
    let b = rw c.deref.ensures.value at (c.in-None.ensures d) in
    rw c.in-Named.is (no_domain {x = c.in-Named.name} (found_none d.symbols _ (b holds.types known)))
