use Rattle.std.proofs.Common.{◌≡◌, true, take}
use Rattle.std.specs.List.{list_all}
use Rattle.gts_core.specs.Readings.{is_met}
use Rattle.gts_core.proofs.readings.are_met.Given as goal

abbrev pub invariant-loop-test : goal.invariant-loop-test
invariant-loop-test l = list_all (is_met l.values) (take l.test-index l.conditions) ≡ true
