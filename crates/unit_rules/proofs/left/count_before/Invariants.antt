use Rattle.std.proofs.Common.{◌≤◌, Some, length}
use Rattle.unit_rules.specs.ToTest.{NoneBeforeFrom}
use Rattle.unit_rules.proofs.left.count_before.Given as goal

abbrev pub invariant-loop-count : goal.invariant-loop-count
invariant-loop-count l = (l.count ≤ length l.settings) × NoneBeforeFrom l.settings l.count (Some l.place)

abbrev pub decreases-loop-count : goal.decreases-loop-count
decreases-loop-count l = l.count
