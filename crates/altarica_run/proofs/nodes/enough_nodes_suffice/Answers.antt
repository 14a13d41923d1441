use Rattle.altarica_run.proofs.NodeLemmas.{smaller_limit, conflict_told, cuts_told, conflict_given, cuts_given}
use Rattle.altarica_run.proofs.nodes.enough_nodes_suffice.Goals as goal

pub returns-clause-larger_limits_suffice : goal.returns-clause-larger_limits_suffice
returns-clause-larger_limits_suffice c = smaller_limit

pub returns-clause-conflict_with_enough : goal.returns-clause-conflict_with_enough
returns-clause-conflict_with_enough c = λ asked w text s told lists enough met. conflict_told asked w lists enough met text s told

pub returns-clause-listing_with_enough : goal.returns-clause-listing_with_enough
returns-clause-listing_with_enough c = λ asked w text s told lists enough free. cuts_told asked w lists enough free text s told

pub returns-clause-call_with_conflict : goal.returns-clause-call_with_conflict
returns-clause-call_with_conflict c =
    λ k s asked gave is lists enough met. conflict_given k asked (c.one_job.ensures k.words) is lists enough met s gave

pub returns-clause-call_with_listing : goal.returns-clause-call_with_listing
returns-clause-call_with_listing c =
    λ k s asked gave is lists enough free. cuts_given k asked (c.one_job.ensures k.words) is lists enough free s gave
