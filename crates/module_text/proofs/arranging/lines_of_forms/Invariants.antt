use Rattle.std.proofs.Common.{◌≡◌, List, map, take}
use Rattle.mode_trees.specs.declared.forests.Edge.{Edge}
use Rattle.module_text.specs.Arranged.{pieces_of, form_pieces}
use Rattle.module_text.specs.Places.{ArePlacesOf}
use Rattle.module_text.proofs.arranging.lines_of_forms.Given as goal

abbrev pub invariant-loop-form : goal.invariant-loop-form
invariant-loop-form l = (edges : List Edge) → ArePlacesOf edges l.table
    → map pieces_of l.lines.items ≡ map (form_pieces edges) (take l.form-index l.forms)
