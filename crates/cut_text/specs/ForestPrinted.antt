-- The text of a forest as it is written, by the parts of a flat system.
use Rattle.std.specs.Prelude.{ℕ, ◌+◌, List, [], ◌∷◌, ◌++◌, length}
use Rattle.ar_base.specs.Texts.{text_at}
use Rattle.ar_meaning.specs.ValueTexts.{value_text}
use Rattle.gts_core.specs.declared.system.GtsParts.{GtsParts}
use Rattle.gts_flatten.specs.Flat.{naming_of_parts}
use Rattle.text_pieces.specs.WayLabels.{way_label}
use Rattle.mode_trees.specs.declared.forests.Edge.{Edge}
use Rattle.mode_trees.specs.declared.forests.ModeTree.{ModeTree}
use Rattle.mode_trees.specs.declared.forests.Forest.{Forest}
use Rattle.cut_text.specs.ForestTexts.{edge_text, root_text, events_line}

-- the line of an edge
abbrev pub edge_line : GtsParts → Edge → List ℕ
edge_line p e = edge_text (value_text p.symbols.items e.from) (way_label p e.way.n) (value_text p.symbols.items e.to)

-- the lines of these edges
abbrev pub edge_lines : GtsParts → List Edge → List ℕ
edge_lines p [] = []
edge_lines p (e ∷ es) = edge_line p e ++ edge_lines p es

-- the line of a tree's variable
abbrev pub tree_line : GtsParts → ModeTree → List ℕ
tree_line p t = root_text (text_at (naming_of_parts p).variables t.variable.n) (value_text p.symbols.items t.first)

-- the lines of these trees
abbrev pub trees_text : GtsParts → List ModeTree → List ℕ
trees_text p [] = []
trees_text p (t ∷ ts) = (tree_line p t ++ edge_lines p t.edges.items) ++ trees_text p ts

-- how many edges these trees have
abbrev pub edge_count : List ModeTree → ℕ
edge_count [] = 0
edge_count (t ∷ ts) = length t.edges.items + edge_count ts

-- the whole text
abbrev pub forest_text : GtsParts → Forest → List ℕ
forest_text p f = trees_text p f.trees.items ++ events_line (edge_count f.trees.items)
