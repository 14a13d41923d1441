use Rattle.bind_names.proofs.RulesWhole.{tree_targets}
use Rattle.bind_names.proofs.written_rules.first_misplaced_in.Goals as goal

pub returns : goal.returns
returns c = λ m units are. tree_targets m units c.first_in.result (c.first_in.ensures m units are)
