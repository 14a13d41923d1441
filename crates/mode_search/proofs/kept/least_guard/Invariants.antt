use Rattle.std.proofs.Common.{take}
use Rattle.mode_search.specs.Events.{IsLeastNumber}
use Rattle.mode_search.specs.Kept.{OtherInGuard}
use Rattle.mode_search.proofs.kept.least_guard.Given as goal

abbrev pub invariant-loop-way : goal.invariant-loop-way
invariant-loop-way l = IsLeastNumber (OtherInGuard (take l.way-index l.kept)) l.least
