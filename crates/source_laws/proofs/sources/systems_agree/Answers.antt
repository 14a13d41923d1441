use Rattle.source_laws.proofs.Meant.{systems_same}
use Rattle.source_laws.proofs.Counted.{ways_same, parts_same, nodes_same}
use Rattle.source_laws.proofs.sources.systems_agree.Goals as goal

pub returns-clause-systems_agree : goal.returns-clause-systems_agree
returns-clause-systems_agree c = systems_same

pub returns-clause-counted_ways_agree : goal.returns-clause-counted_ways_agree
returns-clause-counted_ways_agree c = λ x y s. ways_same x y s

pub returns-clause-counted_parts_agree : goal.returns-clause-counted_parts_agree
returns-clause-counted_parts_agree c = λ x y s. parts_same x y s

pub returns-clause-counted_nodes_agree : goal.returns-clause-counted_nodes_agree
returns-clause-counted_nodes_agree c = λ x y s. nodes_same x y s
