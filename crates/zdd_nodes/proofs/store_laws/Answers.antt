use Rattle.zdd_nodes.proofs.Sectioned.{section_stored}
use Rattle.zdd_nodes.proofs.Limits.{each_takes_a_node}
use Rattle.zdd_nodes.proofs.store_laws.Goals as goal

pub returns-clause-stored_sections : goal.returns-clause-stored_sections
returns-clause-stored_sections c = λ s f h sound st k. section_stored s sound f h st k

pub returns-clause-room_for_families : goal.returns-clause-room_for_families
returns-clause-room_for_families c = λ s n m. each_takes_a_node s n m
