use Rattle.source_laws.proofs.Synchronised.{way_rules_there, way_rules_back}
use Rattle.source_laws.proofs.sources.way_rules_agree.Goals as goal

pub returns : goal.returns
returns c = λ d e s r p.
    let listed = c.units_agree.ensures.events in
    let ways = c.units_agree.ensures.ways in
    ((λ h. way_rules_there listed ways d e s r p h), (λ h. way_rules_back listed ways d e s r p h))
