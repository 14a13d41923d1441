use Rattle.source_meaning.proofs.RuleCases.{unknown_target, acted_tie, hidden_symbol, two_ways}
use Rattle.source_meaning.proofs.rows.worked_rows.Goals as goal

pub returns-clause-unknown_targets_break_naming : goal.returns-clause-unknown_targets_break_naming
returns-clause-unknown_targets_break_naming c = unknown_target

pub returns-clause-ties_in_actions_break_targets : goal.returns-clause-ties_in_actions_break_targets
returns-clause-ties_in_actions_break_targets c = acted_tie

pub returns-clause-members_hide_symbols : goal.returns-clause-members_hide_symbols
returns-clause-members_hide_symbols c = hidden_symbol

pub returns-clause-ties_carry_both_ways : goal.returns-clause-ties_carry_both_ways
returns-clause-ties_carry_both_ways c = two_ways
