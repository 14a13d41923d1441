use Rattle.bind_names.proofs.RulesWhole.{tree_kinds}
use Rattle.bind_names.proofs.written_rules.first_mistyped_in.Goals as goal

pub returns : goal.returns
returns c = λ m units are. tree_kinds m units c.first_in.result (c.first_in.ensures m units are)
