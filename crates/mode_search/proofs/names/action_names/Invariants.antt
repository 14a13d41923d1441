use Rattle.std.proofs.Common.{[], drop}
use Rattle.mode_search.specs.Named.{OneNames}
use Rattle.gts_core.proofs.Added.{Remains}
use Rattle.mode_search.proofs.names.action_names.Given as goal

abbrev pub invariant-loop-assign : goal.invariant-loop-assign
invariant-loop-assign l = Remains (λ x. OneNames (drop l.assign-index l.action) x) (λ x. OneNames l.action x) []
    l.names.items
