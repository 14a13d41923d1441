use Rattle.mode_diagrams.proofs.Arranging.{firable_by_modes}
use Rattle.mode_diagrams.proofs.firable_sets.firable_by_modes.Goals as goal

pub returns : goal.returns
returns c = firable_by_modes
