use Rattle.diagram_steps.specs.Trees.{edges_of}
use Rattle.mode_diagrams.specs.Costs.{AreModeCosts}
use Rattle.mode_diagrams.proofs.costs.tree_costs.Given as goal

abbrev pub invariant-loop-place : goal.invariant-loop-place
invariant-loop-place l = AreModeCosts (edges_of l.fn.tree) l.place l.costs.items
