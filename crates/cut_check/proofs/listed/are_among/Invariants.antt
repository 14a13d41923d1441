use Rattle.std.proofs.Common.{take}
use Rattle.ar_base.specs.Sets.{Within}
use Rattle.job_inputs.specs.Chains.{chain_labels}
use Rattle.cut_check.specs.Flat.{flat_event_numbers}
use Rattle.cut_check.specs.Verdicts.{events_of}
use Rattle.cut_check.proofs.listed.are_among.Given as goal

abbrev pub invariant-loop-way : goal.invariant-loop-way
invariant-loop-way l = Within (events_of (chain_labels l.parts (take l.way-index l.ways))) (flat_event_numbers l.cut)
