use Rattle.static_fragment.proofs.Units.{joint_breaks, breaks_joint, no_joint_keeps, transitions_moves, moves_transitions, stateless_breaks, breaks_stateless, no_stateless_keeps, moving_mode, mode_moving, value_there}
use Rattle.static_fragment.proofs.UnitShowing.{first_joint_shown, first_stateless_shown, first_wide_shown}
use Rattle.static_fragment.proofs.Values.{flow_breaks, breaks_flow, observer_breaks, breaks_observer, none_wide_keeps}
use Rattle.static_fragment.proofs.laws.event_laws.Goals as goal

pub returns-clause-joint_breaks : goal.returns-clause-joint_breaks
returns-clause-joint_breaks c = λ p system views n. (joint_breaks p system views n, breaks_joint p system views n)

pub returns-clause-joint_keeps : goal.returns-clause-joint_keeps
returns-clause-joint_keeps c = no_joint_keeps

pub returns-clause-joint_first : goal.returns-clause-joint_first
returns-clause-joint_first c = λ p system dropped views n h. first_joint_shown p system views dropped n h

pub returns-clause-units_with_transitions : goal.returns-clause-units_with_transitions
returns-clause-units_with_transitions c = λ p system dropped marks views are unit.
    (transitions_moves p system views dropped marks are unit, moves_transitions p system views dropped marks are unit)

pub returns-clause-stateless_breaks : goal.returns-clause-stateless_breaks
returns-clause-stateless_breaks c = λ p system dropped marks moving firsts views sound u unit. (
  stateless_breaks p system views sound dropped marks moving firsts u unit,
  breaks_stateless p system views sound dropped marks moving firsts u unit,
)

pub returns-clause-stateless_keeps : goal.returns-clause-stateless_keeps
returns-clause-stateless_keeps c = λ p system dropped marks moving firsts views sound u none. no_stateless_keeps p system
    views sound dropped marks moving firsts u none

pub returns-clause-stateless_first : goal.returns-clause-stateless_first
returns-clause-stateless_first c = λ p system dropped marks moving firsts views sound u unit h.
    first_stateless_shown p system views dropped sound marks moving firsts u unit h

pub returns-clause-mode_variables : goal.returns-clause-mode_variables
returns-clause-mode_variables c = λ p system dropped marks moving views sound are move n. (
  moving_mode p system views dropped marks are moving move n,
  mode_moving p system views dropped marks are moving
      move sound n,
)

pub returns-clause-first_modes : goal.returns-clause-first_modes
returns-clause-first_modes c = λ p system dropped views n m x h. value_there p system views dropped n m x h

pub returns-clause-wide_flows : goal.returns-clause-wide_flows
returns-clause-wide_flows c = flow_breaks

pub returns-clause-wide_flows_back : goal.returns-clause-wide_flows_back
returns-clause-wide_flows_back c = breaks_flow

pub returns-clause-wide_observers : goal.returns-clause-wide_observers
returns-clause-wide_observers c = λ p system views n. (observer_breaks p system views n, breaks_observer p system views n)

pub returns-clause-wide_keeps : goal.returns-clause-wide_keeps
returns-clause-wide_keeps c = none_wide_keeps

pub returns-clause-wide_first : goal.returns-clause-wide_first
returns-clause-wide_first c = λ p system dropped views sound found h. first_wide_shown p system views dropped sound found h
