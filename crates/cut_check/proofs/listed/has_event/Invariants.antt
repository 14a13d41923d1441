use Rattle.std.proofs.Common.{take}
use Rattle.ar_base.specs.Lists.{IsOneOf}
use Rattle.job_inputs.specs.Chains.{chain_labels}
use Rattle.cut_check.specs.Verdicts.{events_of}
use Rattle.cut_check.proofs.listed.has_event.Given as goal

abbrev pub invariant-loop-way : goal.invariant-loop-way
invariant-loop-way l = IsOneOf (events_of (chain_labels l.parts (take l.way-index l.ways))) l.event → ⊥
