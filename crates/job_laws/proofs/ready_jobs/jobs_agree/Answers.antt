use Rattle.job_laws.proofs.Inputs.{commands_there, cut_list_there, events_there, wanted_there}
use Rattle.job_laws.proofs.ReadyLabels.{label_there, observer_there}
use Rattle.job_laws.proofs.Shared.{shared}
use Rattle.job_laws.proofs.Turned.{source_back, ready_back}
use Rattle.std.proofs.Common.{Ok, Err}
use Rattle.job_laws.proofs.ReadyAsking.{asks_carries}
use Rattle.job_laws.proofs.ReadyDemanding.{readies_carry}
use Rattle.job_laws.proofs.Conflicts.{conflict_alike, cut_alike}
use Rattle.job_laws.proofs.ReadyTelling.{alike_free, alike_needs, alike_tells}
use Rattle.job_laws.proofs.ready_jobs.jobs_agree.Goals as goal

pub returns-clause-naming : goal.returns-clause-naming
returns-clause-naming c = λ x y s. (shared c.agreement_opens.ensures.kind x y s).naming

pub returns-clause-labels : goal.returns-clause-labels
returns-clause-labels c = λ x y s text l.
    let on = shared c.agreement_opens.ensures.kind x y s in
    let back = shared c.agreement_opens.ensures.kind y x (source_back x y s) in
    (label_there x y on text l, label_there y x back text l)

pub returns-clause-scripts : goal.returns-clause-scripts
returns-clause-scripts c = λ x y s script a.
    let on = shared c.agreement_opens.ensures.kind x y s in
    let back = shared c.agreement_opens.ensures.kind y x (source_back x y s) in
    (commands_there x y on back script a, commands_there y x back on script a)

pub returns-clause-inputs_agree_cuts : goal.returns-clause-inputs_agree_cuts
returns-clause-inputs_agree_cuts c = λ x y s list a.
    let on = shared c.agreement_opens.ensures.kind x y s in
    let back = shared c.agreement_opens.ensures.kind y x (source_back x y s) in
    (cut_list_there x y on back list a, cut_list_there y x back on list a)

pub returns-clause-events : goal.returns-clause-events
returns-clause-events c = λ x y s text events.
    let on = shared c.agreement_opens.ensures.kind x y s in
    let back = shared c.agreement_opens.ensures.kind y x (source_back x y s) in
    (events_there x y on text events, events_there y x back text events)

pub returns-clause-observers : goal.returns-clause-observers
returns-clause-observers c = λ x y s path n.
    let on = shared c.agreement_opens.ensures.kind x y s in
    let back = shared c.agreement_opens.ensures.kind y x (source_back x y s) in
    (observer_there x y on path n, observer_there y x back path n)

pub returns-clause-wanted : goal.returns-clause-wanted
returns-clause-wanted c = λ x y s path word n v.
    let on = shared c.agreement_opens.ensures.kind x y s in
    let back = shared c.agreement_opens.ensures.kind y x (source_back x y s) in
    (wanted_there x y on path word n v, wanted_there y x back path word n v)

pub returns-clause-requests_pass : goal.returns-clause-requests_pass
returns-clause-requests_pass c =
    λ x y s asked texts w h. asks_carries (shared c.agreement_opens.ensures.kind) asked texts x y s (Ok w) h

pub returns-clause-requests_refused : goal.returns-clause-requests_refused
returns-clause-requests_refused c =
    λ x y s asked texts r h. asks_carries (shared c.agreement_opens.ensures.kind) asked texts x y s (Err r) h

pub returns-clause-readiness_passes : goal.returns-clause-readiness_passes
returns-clause-readiness_passes c =
    λ x y s asked texts w h. readies_carry (shared c.agreement_opens.ensures.kind) asked texts x y s (Ok w) h

pub returns-clause-readiness_refused : goal.returns-clause-readiness_refused
returns-clause-readiness_refused c =
    λ x y s asked texts r h. readies_carry (shared c.agreement_opens.ensures.kind) asked texts x y s (Err r) h

pub returns-clause-conflict_free : goal.returns-clause-conflict_free
returns-clause-conflict_free c = λ w v s.
    let on = shared c.agreement_opens.ensures.kind in
    (alike_free on w v s, alike_free on v w (ready_back w v s))

pub returns-clause-conflicts_agree : goal.returns-clause-conflicts_agree
returns-clause-conflicts_agree c = λ w v s. (conflict_alike w v s, conflict_alike v w (ready_back w v s))

pub returns-clause-cuts_agree : goal.returns-clause-cuts_agree
returns-clause-cuts_agree c = λ w v s a b set.
    (cut_alike w v s a b set, cut_alike v w (ready_back w v s) b a set)

pub returns-clause-nodes_agree : goal.returns-clause-nodes_agree
returns-clause-nodes_agree c = λ w v s limit.
    let on = shared c.agreement_opens.ensures.kind in
    (alike_needs on w v s limit, alike_needs on v w (ready_back w v s) limit)

pub returns-clause-texts_agree : goal.returns-clause-texts_agree
returns-clause-texts_agree c = λ w v s asked text ends.
    let on = shared c.agreement_opens.ensures.kind in
    (alike_tells on w v s asked text ends, alike_tells on v w (ready_back w v s) asked text ends)
