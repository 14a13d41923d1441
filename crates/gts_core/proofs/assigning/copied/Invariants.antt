use Rattle.std.proofs.Common.{take}
use Rattle.gts_core.specs.Bound.{AreConditionCopies, conditions_in}
use Rattle.gts_core.proofs.assigning.copied.Given as goal

abbrev pub invariant-loop-test : goal.invariant-loop-test
invariant-loop-test l = AreConditionCopies (conditions_in (take l.test-index l.when)) l.out.items
