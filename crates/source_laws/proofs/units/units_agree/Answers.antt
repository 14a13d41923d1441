use Rattle.source_laws.proofs.Leading.{walks_there, lists_there, things_same, variable_same, parameter_same, event_same, observer_same}
use Rattle.source_laws.proofs.Turned.{rooted_turned}
use Rattle.hierarchy.specs.Walks.{is_variable, is_parameter, is_event, is_observer}
use Rattle.source_laws.proofs.Sizes.{nodes_same}
use Rattle.source_laws.proofs.Forced.{found_both, thing_path_same, unit_path_same, dotted_same, as_option, in_force_same, domains_there, assertions_same, hidden_paths_same, ways_there}
use Rattle.source_laws.proofs.Settled.{unit_rules_there}
use Rattle.source_laws.proofs.OneTree.{tree_alike}
use Rattle.source_laws.proofs.units.units_agree.Goals as goal

pub returns-clause-walks_agree : goal.returns-clause-walks_agree
returns-clause-walks_agree c = λ m n s f u xs o.
    let opens = c.agreement_opens.ensures.kind in
    ((λ l. walks_there opens m n s l), (λ l. walks_there opens n m (rooted_turned s) l))

pub returns-clause-lists_agree : goal.returns-clause-lists_agree
returns-clause-lists_agree c = λ m n s us.
    let opens = c.agreement_opens.ensures.kind in
    ((λ l. lists_there opens m n s l), (λ l. lists_there opens n m (rooted_turned s) l))

pub returns-clause-variables : goal.returns-clause-variables
returns-clause-variables c =
    λ m n s us. things_same c.agreement_opens.ensures.kind m n s is_variable (λ k l r. variable_same r) us

pub returns-clause-parameters : goal.returns-clause-parameters
returns-clause-parameters c =
    λ m n s us. things_same c.agreement_opens.ensures.kind m n s is_parameter (λ k l r. parameter_same r) us

pub returns-clause-events : goal.returns-clause-events
returns-clause-events c =
    λ m n s us. things_same c.agreement_opens.ensures.kind m n s is_event (λ k l r. event_same r) us

pub returns-clause-observers : goal.returns-clause-observers
returns-clause-observers c =
    λ m n s us. things_same c.agreement_opens.ensures.kind m n s is_observer (λ k l r. observer_same r) us

pub returns-clause-nodes : goal.returns-clause-nodes
returns-clause-nodes c =
    λ m n s us. nodes_same c.agreement_opens.ensures.form c.agreement_opens.ensures.step
    c.agreement_opens.ensures.kind m n s us

pub returns-clause-variable_paths_agree : goal.returns-clause-variable_paths_agree
returns-clause-variable_paths_agree c =
    λ m n s u p t. found_both c.agreement_opens.ensures.kind m n s is_variable (λ k l r. variable_same r) u p t

pub returns-clause-parameter_paths_agree : goal.returns-clause-parameter_paths_agree
returns-clause-parameter_paths_agree c =
    λ m n s u p t. found_both c.agreement_opens.ensures.kind m n s is_parameter (λ k l r. parameter_same r) u p t

pub returns-clause-event_paths_agree : goal.returns-clause-event_paths_agree
returns-clause-event_paths_agree c =
    λ m n s u p t. found_both c.agreement_opens.ensures.kind m n s is_event (λ k l r. event_same r) u p t

pub returns-clause-observer_paths_agree : goal.returns-clause-observer_paths_agree
returns-clause-observer_paths_agree c =
    λ m n s u p t. found_both c.agreement_opens.ensures.kind m n s is_observer (λ k l r. observer_same r) u p t

pub returns-clause-unit_text : goal.returns-clause-unit_text
returns-clause-unit_text c = λ m n s u. unit_path_same m n s.names u

pub returns-clause-thing_text : goal.returns-clause-thing_text
returns-clause-thing_text c = λ m n s t. thing_path_same m n s.names t

pub returns-clause-path_text : goal.returns-clause-path_text
returns-clause-path_text c = λ m n s xs. dotted_same m n s.names xs

pub returns-clause-in_force : goal.returns-clause-in_force
returns-clause-in_force c = λ m n s t. as_option (in_force_same c.agreement_opens.ensures.kind m n s t)

pub returns-clause-domains : goal.returns-clause-domains
returns-clause-domains c = λ m n s f v h. domains_there m.declared n.declared s.declared f v h

pub returns-clause-assertions : goal.returns-clause-assertions
returns-clause-assertions c = λ m n s us. assertions_same c.agreement_opens.ensures.kind m n s us

pub returns-clause-hidden : goal.returns-clause-hidden
returns-clause-hidden c = λ m n s us. hidden_paths_same c.agreement_opens.ensures.kind m n s us

pub returns-clause-ways : goal.returns-clause-ways
returns-clause-ways c = λ m n s e. ways_there c.agreement_opens.ensures.kind m n s e

pub returns-clause-unit_rules_agree : goal.returns-clause-unit_rules_agree
returns-clause-unit_rules_agree c = λ m n s us r p.
    let opens = c.agreement_opens.ensures.kind in
    let back = rooted_turned s in
    ((λ b. unit_rules_there opens m n s back us r p b), (λ b. unit_rules_there opens n m back s us r p b))

pub returns-clause-one_tree_or_refusal : goal.returns-clause-one_tree_or_refusal
returns-clause-one_tree_or_refusal c =
    λ m n s a b h k. tree_alike c.agreement_opens.ensures.form c.agreement_opens.ensures.step
    c.agreement_opens.ensures.kind m n s a b h k
