use Rattle.hierarchy.proofs.Rooted.{rooted}
use Rattle.hierarchy.proofs.laws.tables_are_rooted.Goals as goal

pub returns : goal.returns
returns k = λ model main c t. rooted t
