use Rattle.std.proofs.Common.{◌-◌, length}
use Rattle.zdd_nodes.specs.Nodes.{family, IsFamilyNumber}
use Rattle.diagram_steps.specs.Putting.{Extends}
use Rattle.mode_diagrams.specs.Sets.{HasSets, with_most, IsTrueBelow}
use Rattle.mode_diagrams.specs.Kept.{AreHeld}
use Rattle.mode_diagrams.proofs.listing.+family_from.Given as goal

abbrev pub decreases-family_from : goal.decreases-family_from
decreases-family_from l = length l.trees.now - l.state.place

abbrev pub invariant-loop-mode : goal.invariant-loop-mode
invariant-loop-mode l =
    Extends l.fn.ops l.ops × AreHeld l.fn.trees l.fn.diagrams l.ops l.held × IsFamilyNumber l.ops l.sets.n
    × HasSets (IsTrueBelow l.fn.trees l.fn.state.place (with_most l.fn.diagrams l.fn.state.most) l.fn.state.diagram.n l.mode) (family l.ops l.sets.n)
