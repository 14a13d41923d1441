use Rattle.job_stages.specs.declared.refusals.Refusal.TheVariants.{Size}
use Rattle.job_laws.proofs.CausesOfTexts.{of_units, of_variables, of_events, of_nodes, of_ways, of_parts, of_expressions}
use Rattle.job_laws.proofs.CausesOfJobs.{of_gates}
use Rattle.ar_base.specs.declared.counts.Count.TheVariants as count
use Rattle.job_laws.proofs.causes.passed_limits_are_told.Goals as goal

pub returns-clause-passed_limits_of_units_are_told : goal.returns-clause-passed_limits_of_units_are_told
returns-clause-passed_limits_of_units_are_told c =
    λ k s asked texts text m root units n gave known is l i read table first h.
    c.refusals_are_told.ensures k s asked (Size n) gave known is
    (of_units k.files asked texts text l i m read root table units n first h)

pub returns-clause-passed_limit_of_variables : goal.returns-clause-passed_limit_of_variables
returns-clause-passed_limit_of_variables c =
    λ k s asked texts text m root t gave known is l i read table unfolds h.
    c.refusals_are_told.ensures k s asked (Size count.Variables) gave known is
    (of_variables k.files asked texts text l i m read root table t unfolds h)

pub returns-clause-passed_limit_of_events : goal.returns-clause-passed_limit_of_events
returns-clause-passed_limit_of_events c =
    λ k s asked texts text m root t gave known is l i read table unfolds v h.
    c.refusals_are_told.ensures k s asked (Size count.Events) gave known is
    (of_events k.files asked texts text l i m read root table t unfolds v h)

pub returns-clause-passed_limit_of_tree_nodes : goal.returns-clause-passed_limit_of_tree_nodes
returns-clause-passed_limit_of_tree_nodes c =
    λ k s asked texts text m root t gave known is l i read table unfolds v e h.
    c.refusals_are_told.ensures k s asked (Size count.TreeNodes) gave known is
    (of_nodes k.files asked texts text l i m read root table t unfolds v e h)

pub returns-clause-passed_limits_of_ways_are_told : goal.returns-clause-passed_limits_of_ways_are_told
returns-clause-passed_limits_of_ways_are_told c =
    λ k s asked texts text m root t d x gave known is l i read table tree binds keeps has h.
    c.refusals_are_told.ensures k s asked (Size count.Ways) gave known is
    (of_ways k.files asked texts text l i m read root table t tree d binds keeps x has h)

pub returns-clause-passed_limit_of_parts : goal.returns-clause-passed_limit_of_parts
returns-clause-passed_limit_of_parts c =
    λ k s asked texts text m root t d x gave known is l i read table tree binds keeps has w h.
    c.refusals_are_told.ensures k s asked (Size count.WayParts) gave known is
    (of_parts k.files asked texts text l i m read root table t tree d binds keeps x has w h)

pub returns-clause-passed_limit_of_expression_nodes : goal.returns-clause-passed_limit_of_expression_nodes
returns-clause-passed_limit_of_expression_nodes c =
    λ k s asked texts text m root t d x gave known is l i read table tree binds keeps has w q h.
    c.refusals_are_told.ensures k s asked (Size count.ExpressionNodes) gave known is
    (of_expressions k.files asked texts text l i m read root table t tree d binds keeps x has w q h)

pub returns-clause-passed_limits_of_gates_are_told : goal.returns-clause-passed_limits_of_gates_are_told
returns-clause-passed_limits_of_gates_are_told c =
    λ k s asked texts text x w wanted table gave known is l i means asks has keeps e t h.
    c.refusals_are_told.ensures k s asked (Size count.Gates) gave known is
    (of_gates k.files asked texts text l i x means w asks has keeps wanted table e t h)
