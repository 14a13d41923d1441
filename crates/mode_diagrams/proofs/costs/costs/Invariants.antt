use Rattle.mode_nodes.specs.Bounds.{costs_of}
use Rattle.mode_diagrams.specs.Costs.{AreCostsOf}
use Rattle.mode_diagrams.proofs.costs.costs.Given as goal

-- those of the trees so far
abbrev pub invariant-loop-place : goal.invariant-loop-place
invariant-loop-place l = AreCostsOf l.fn.trees l.place (costs_of l.costs.items)
