use Rattle.std.proofs.Common.{◌≡◌, ◌<◌, ℕ}
use Rattle.ar_base.specs.Lists.{Stands}
use Rattle.mode_trees.specs.declared.forests.Edge.{Edge}
use Rattle.mode_diagrams.proofs.numbering.mode_number.Given as goal

-- none of the edges so far enters the mode
abbrev pub invariant-loop-k : goal.invariant-loop-k
invariant-loop-k l = (j : ℕ) (e : Edge) → j < l.k → Stands l.fn.tree.edges.items j e → e.to ≡ l.fn.mode → ⊥
