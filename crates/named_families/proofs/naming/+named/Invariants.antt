use Rattle.std.proofs.Common.{◌≤◌}
use Rattle.zdd_nodes.specs.Nodes.{family}
use Rattle.diagram_steps.specs.Putting.{Extends}
use Rattle.named_families.specs.Named.{AreKept, AreNumbers}
use Rattle.named_families.proofs.Parts.{AreParts}
use Rattle.named_families.proofs.naming.+named.Given as goal

abbrev pub decreases-named : goal.decreases-named
decreases-named l = l.number.n

abbrev pub invariant-loop-event : goal.invariant-loop-event
invariant-loop-event l = record {
  before : l.left.n ≤ l.fn.number.n;
  grows : Extends l.fn.ops l.ops;
  kept : AreKept l.names l.source l.ops l.kept;
  numbers : AreNumbers l.ops l.parts.items;
  parts : AreParts l.names (family l.source l.fn.number.n) (family l.source l.left.n) l.ops l.parts.items;
}

abbrev pub decreases-loop-event : goal.decreases-loop-event
decreases-loop-event l = l.left.n
