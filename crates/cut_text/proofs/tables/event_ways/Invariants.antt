use Rattle.std.proofs.Common.{◌≡◌, drop, length}
use Rattle.cut_text.specs.Printed.{forest_edges}
use Rattle.cut_text.specs.Tables.{with_ways}
use Rattle.cut_text.proofs.tables.event_ways.Given as goal

abbrev pub invariant-loop-tree : goal.invariant-loop-tree
invariant-loop-tree l = (with_ways (forest_edges (drop l.tree-index l.forest.trees.items)) l.ways.items ≡ with_ways
    (forest_edges l.forest.trees.items) l.initial.ways.items)
    × (length l.ways.items ≡ length l.initial.ways.items)
