use Rattle.static_fragment.proofs.Leading.{row_live, live_row, mode_reached, reached_mode, wrong_breaks, broken_s4, unbroken_s4}
use Rattle.std.proofs.lemmas.Bool.{cases_eq}
use Rattle.ar_firing.proofs.Unbroken.{keeps_s4}
use Rattle.static_fragment.proofs.Naming.{action_breaks}
use Rattle.static_fragment.proofs.reaching.edge_laws.Goals as goal

pub returns-clause-edges_live : goal.returns-clause-edges_live
returns-clause-edges_live c = λ p system dropped kept reaches a. row_live a

pub returns-clause-modes_live : goal.returns-clause-modes_live
returns-clause-modes_live c = λ p system dropped kept reaches a. mode_reached a

pub returns-clause-live_edges : goal.returns-clause-live_edges
returns-clause-live_edges c = λ p system dropped kept reaches a k1 k2. live_row a k1 k2

pub returns-clause-modes_reached : goal.returns-clause-modes_reached
returns-clause-modes_reached c = λ p system dropped kept reaches a k1 k2. reached_mode a k1 k2

pub returns-clause-action_names : goal.returns-clause-action_names
returns-clause-action_names c = λ p system dropped kept a n h. action_breaks a n h

pub returns-clause-action_wrong : goal.returns-clause-action_wrong
returns-clause-action_wrong c = λ p system dropped kept reaches a n h. wrong_breaks a n h

pub returns-clause-action_broken : goal.returns-clause-action_broken
returns-clause-action_broken c = λ p system dropped kept reaches a k1 k2 n h. broken_s4 a k1 k2 n h

pub returns-clause-actions_keep : goal.returns-clause-actions_keep
returns-clause-actions_keep c = λ p system dropped kept reaches a k1 k2 f g. keeps_s4 cases_eq system dropped
    (unbroken_s4 a k1 k2 f g)
