use Rattle.source_laws.proofs.Flattened.{system_alike}
use Rattle.source_laws.proofs.sources.one_system_or_refusal.Goals as goal

pub returns : goal.returns
returns c = λ d e s keyed a b h k.
    system_alike c.way_rules_agree.ensures c.systems_agree.ensures.systems_agree c.systems_agree.ensures.counted_ways_agree
    c.systems_agree.ensures.counted_parts_agree c.systems_agree.ensures.counted_nodes_agree d e (record { same = s; keyed = keyed }) a b h k
