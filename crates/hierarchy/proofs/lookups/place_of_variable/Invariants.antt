use Rattle.std.proofs.Common.{◌≡◌, ◌<◌, ◌≤◌, ℕ}
use Rattle.ar_base.specs.Lists.{Stands}
use Rattle.hierarchy.specs.declared.tree.VarNode.{VarNode}
use Rattle.hierarchy.proofs.lookups.place_of_variable.Given as goal

-- no node of the run up to here has the name
abbrev pub invariant-loop-place : goal.invariant-loop-place
invariant-loop-place l = (k : ℕ) (d : VarNode) → l.from ≤ k → k < l.place → Stands l.nodes k d
    → d.node.name.n ≡ l.name.n → ⊥
