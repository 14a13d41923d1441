-- Bound forms have the flows of their declarations.
use Rattle.std.proofs.Common.{◌↔◌, List}
use Rattle.domains.specs.declared.Value.{Value}
use Rattle.ar_meaning.specs.Flows.{Flows, Outcome}
use Rattle.ar_meaning.proofs.ImageBoth.{same_flows}
use Rattle.source_meaning.specs.Binding.{IsBoundFrom, net_of_bound}
use Rattle.source_meaning.specs.Numbering.{IsVariableNumber}
use Rattle.source_meaning.specs.Systems.{Declarations}
use Rattle.source_meaning.specs.declared.bound.Bound.{Bound}

pub flows_bound : (d : Declarations) (b : Bound) → IsBoundFrom d b → (t : List Value) (o : Outcome) → Flows d.net t o
    ↔ Flows (net_of_bound b) t o
flows_bound d b h t o = same_flows (IsVariableNumber d) d.net (net_of_bound b) h.net t o
