use Rattle.mode_search.specs.Events.{IsLeastNumber}
use Rattle.mode_search.specs.Wide.{IsWideFlow}
use Rattle.mode_search.proofs.searches.least_flow.Given as goal

abbrev pub invariant-loop-assign : goal.invariant-loop-assign
invariant-loop-assign l = IsLeastNumber (IsWideFlow l.parts l.assign-index) l.least
