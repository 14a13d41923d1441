-- The text of a family in short as it is written, by the parts of a flat system and the edges of its forest.
use Rattle.std.specs.Prelude.{ℕ, List, ◌++◌, map, length}
use Rattle.std.specs.List.{filter, flat_map}
use Rattle.ar_base.specs.Texts.{line, text_at}
use Rattle.gts_core.specs.declared.system.GtsParts.{GtsParts}
use Rattle.mode_trees.specs.declared.forests.Edge.{Edge}
use Rattle.mode_trees.specs.declared.forests.Forest.{Forest}
use Rattle.text_pieces.specs.WayLabels.{way_label}
use Rattle.zdd_nodes.specs.Families.{holds}
use Rattle.cut_text.specs.Printed.{forest_edges}
use Rattle.cut_text.specs.Texts.{braced}
use Rattle.gate_modules.specs.Shortened.{UnitSets, ShortForm}
use Rattle.gate_modules.specs.ShortenedInside.{module_of, short_form_of}
use Rattle.gate_modules.specs.declared.ranges.Short.{Short}
use Rattle.module_text.specs.Texts.{module_line, part_line, unit_mark, lines_line}

-- the labels of those of the edges that have an event of the set
abbrev pub edge_labels_in : GtsParts → List Edge → List ℕ → List (List ℕ)
edge_labels_in p edges set = map (λ (e : Edge). way_label p e.way.n) (filter (λ (e : Edge). holds e.event.n set) edges)

-- the lines of a module
abbrev pub module_lines : GtsParts → List Edge → UnitSets → List ℕ
module_lines p edges m = module_line (text_at p.units.items m.unit) ++ flat_map
    (λ set. part_line (braced (edge_labels_in p edges set))) m.sets

-- the line of a short form
abbrev pub form_line : GtsParts → List Edge → ShortForm → List ℕ
form_line p edges form = line (braced
    (map (λ u. unit_mark (text_at p.units.items u)) form.units ++ edge_labels_in p edges form.events))

-- the whole text
abbrev pub short_lines : GtsParts → Forest → Short → List ℕ
short_lines p f s =
    flat_map (module_lines p (forest_edges f.trees.items)) (map module_of s.modules.items)
    ++ (flat_map (form_line p (forest_edges f.trees.items)) (map short_form_of s.sets.items) ++ lines_line
    (length s.sets.items))
