use Rattle.unit_rules.proofs.Meeting.{met_none}
use Rattle.unit_rules.proofs.repeats.Targets.new.Goals as goal

pub returns : goal.returns
returns c = λ settings. met_none settings _ c.new.ensures.empty
