use Rattle.std.proofs.Common.{◌≡◌, List, map, take}
use Rattle.mode_trees.specs.declared.forests.Edge.{Edge}
use Rattle.module_text.specs.Arranged.{pieces_of, part_pieces}
use Rattle.module_text.specs.Places.{ArePlacesOf}
use Rattle.module_text.proofs.arranging.lines_of_sets.Given as goal

abbrev pub invariant-loop-set : goal.invariant-loop-set
invariant-loop-set l = (edges : List Edge) → ArePlacesOf edges l.table
    → map pieces_of l.lines.items ≡ map (part_pieces edges) (take l.set-index l.sets)
