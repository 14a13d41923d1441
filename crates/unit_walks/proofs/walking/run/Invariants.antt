use Rattle.std.proofs.Common.{◌+◌, length, []}
use Rattle.hierarchy.specs.Models.{RootedModel}
use Rattle.unit_walks.specs.Forms.{IsFormsFor}
use Rattle.unit_walks.specs.Walking.{IsWalking, weight}
use Rattle.unit_walks.proofs.Running.{load, IsUnderWay}
use Rattle.unit_walks.proofs.walking.run.Given as goal

abbrev pub invariant-walk : goal.invariant-walk
invariant-walk l = (m : RootedModel) → IsFormsFor m l.forms → IsWalking m [] l.first l.fn.table
    → IsUnderWay m l.below.items l.top l.fn.table l.table

abbrev pub decreases-walk : goal.decreases-walk
decreases-walk l = weight l.table + load l.below.items + length l.top.rest.now
