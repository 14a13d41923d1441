use Rattle.std.proofs.Common.{take}
use Rattle.ar_base.specs.Sets.{Within}
use Rattle.job_inputs.specs.Chains.{chain_labels}
use Rattle.cut_check.specs.Flat.{flat_event_numbers}
use Rattle.cut_check.specs.Verdicts.{events_of}
use Rattle.cut_check.proofs.listed.has_all.Given as goal

abbrev pub invariant-loop-event : goal.invariant-loop-event
invariant-loop-event l = Within (flat_event_numbers (take l.event-index l.cut)) (events_of (chain_labels l.parts l.ways))
