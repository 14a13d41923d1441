use Rattle.gate_diagrams.specs.Walked.{sum_of_numbers}
use Rattle.gate_diagrams.proofs.walk.+walk.Given as goal

abbrev pub decreases-walk : goal.decreases-walk
decreases-walk l = sum_of_numbers l.state.left.items
