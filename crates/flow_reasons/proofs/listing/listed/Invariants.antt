use Rattle.std.proofs.Common.{take}
use Rattle.flow_reasons.specs.Reasons.{AreReasonsFrom}
use Rattle.gts_core.specs.View.{net_of, variables_from}
use Rattle.flow_reasons.specs.Answers.{reasons_of}
use Rattle.flow_reasons.proofs.listing.listed.Given as goal

abbrev pub invariant-loop-place : goal.invariant-loop-place
invariant-loop-place l = AreReasonsFrom (net_of l.parts) l.values 0
    (variables_from 0 (take l.place l.parts.variables.items)) (reasons_of l.found.items)
