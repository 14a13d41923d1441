-- What the trees of the code stand for.
use Rattle.std.specs.Prelude.{ℕ, ◌-◌, List, map, Option, Some, None, slice_get}
use Rattle.ar_firing.specs.Forest.{Row}
use Rattle.ar_firing.specs.Forest as firing
use Rattle.gts_core.specs.declared.system.Way.{Way}
use Rattle.gts_core.specs.declared.system.GtsParts.{GtsParts}
use Rattle.mode_trees.specs.declared.forests.Edge.{Edge}
use Rattle.mode_trees.specs.declared.forests.ModeTree.{ModeTree}
use Rattle.mode_trees.specs.declared.forests.Forest.{Forest}

-- an edge with its label and its two modes, where `number` gives each way its number among the ways of its event,
-- counted from 0
abbrev pub edge_row : (ℕ → ℕ) → Edge → Row
edge_row number e = record { from = e.from; label = record { event = e.event.n; way = number e.way.n }; to = e.to }

-- a tree with its edges so seen
abbrev pub tree_of : (ℕ → ℕ) → ModeTree → firing.ModeTree
tree_of number t = record { variable = t.variable.n; first = t.first; edges = map (edge_row number) t.edges.items }

-- the trees of a forest so seen
abbrev pub trees_of : (ℕ → ℕ) → Forest → List firing.ModeTree
trees_of number f = map (tree_of number) f.trees.items

-- the number of a way that was looked up, counted from 0
abbrev pub number_of_found : Option Way → ℕ
number_of_found (Some w) = w.number - 1
number_of_found None = 0

-- the number of each way of the parts among the ways of its event, counted from 0
abbrev pub number_in : GtsParts → ℕ → ℕ
number_in p n = number_of_found (slice_get p.ways.items n)
