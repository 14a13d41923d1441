use Rattle.hierarchy.proofs.Outcomes.{leads_same, walks_same, clone_owner}
use Rattle.hierarchy.proofs.Lists.{lists_same}
use Rattle.hierarchy.proofs.Outermost.{override, inner}
use Rattle.hierarchy.proofs.laws.tree_laws.Goals as goal

pub returns-clause-one_outcome_of_name : goal.returns-clause-one_outcome_of_name
returns-clause-one_outcome_of_name k = λ c f u x w o p d e. leads_same d e

pub returns-clause-one_outcome_of_path : goal.returns-clause-one_outcome_of_path
returns-clause-one_outcome_of_path k = λ c f u xs o p d e. walks_same d e

pub returns-clause-one_list : goal.returns-clause-one_list
returns-clause-one_list k = λ c us vs d e. lists_same d e

pub returns-clause-clones_have_new_owners : goal.returns-clause-clones_have_new_owners
returns-clause-clones_have_new_owners k = λ c f u v x p d. clone_owner d

pub returns-clause-outer_setting_wins : goal.returns-clause-outer_setting_wins
returns-clause-outer_setting_wins k = override

pub returns-clause-inner_setting_else : goal.returns-clause-inner_setting_else
returns-clause-inner_setting_else k = inner
