use Rattle.source_meaning.proofs.BoundMeaning.{bound_meaning}
use Rattle.source_meaning.proofs.BoundInstructions.{bound_instruction}
use Rattle.source_meaning.proofs.BoundFlows.{flows_bound}
use Rattle.source_meaning.proofs.SoundActs.{sound_sets}
use Rattle.source_meaning.proofs.laws.bound_forms.Goals as goal

pub returns-clause-bound_expressions : goal.returns-clause-bound_expressions
returns-clause-bound_expressions c = bound_meaning

pub returns-clause-bound_instructions : goal.returns-clause-bound_instructions
returns-clause-bound_instructions c = bound_instruction

pub returns-clause-bound_flows : goal.returns-clause-bound_flows
returns-clause-bound_flows c = flows_bound

pub returns-clause-sound_instructions : goal.returns-clause-sound_instructions
returns-clause-sound_instructions c = sound_sets
