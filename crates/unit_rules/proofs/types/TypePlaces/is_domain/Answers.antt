use Rattle.unit_rules.proofs.Found.{found_domain, found_class}
use Rattle.unit_rules.proofs.types.TypePlaces.is_domain.Goals as goal

pub returns-in-Some-Domain : goal.returns-in-Some-Domain
returns-in-Some-Domain c = λ d a known.
    rw c.in-Named.is (found_domain d.symbols _ c.in-Some-Domain.field-0.now c.in-Some-Domain.field-0-0
    c.in-Some-Domain.field-0-is (c.in-Some-Domain.ensures d a known))

pub returns-in-Some-Class : goal.returns-in-Some-Class
returns-in-Some-Class c = λ d a known.
    rw c.in-Named.is (found_class d.symbols _ c.in-Some-Class.field-0.now c.in-Some-Class.field-0-0
    c.in-Some-Class.field-0-is (c.in-Some-Class.ensures d a known))
