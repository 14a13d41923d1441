use Rattle.std.proofs.Common.{take}
use Rattle.ar_base.specs.Lists.{IsOneOf}
use Rattle.flow_propagate.specs.Named.{AddsNamed}
use Rattle.flow_propagate.proofs.naming.add_each.Given as goal

abbrev pub invariant-loop-name : goal.invariant-loop-name
invariant-loop-name l =
    AddsNamed l.number (λ x. IsOneOf (take l.name-index l.names) x) l.initial.found.items l.found.items
