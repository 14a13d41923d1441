use Rattle.std.proofs.Common.{ap}
use Rattle.job_stages.specs.Stages.{lists_cuts}
use Rattle.job_stages.specs.Tells.{check_text, check}
use Rattle.job_laws.proofs.Commanded.{well_or_stopped, table_or_stopped, run_or_stopped, reason_or_stopped}
use Rattle.job_laws.proofs.ManyCuts.{nodes_or_stopped}
use Rattle.run_words.specs.declared.verbs.Verb.TheVariants as verb
use Rattle.job_stages.specs.declared.status.Status.TheVariants as status
use Rattle.job_laws.proofs.told.texts_are_told.Goals as goal

pub returns-clause-check : goal.returns-clause-check
returns-clause-check c = λ k s asked w gave known is sought p.
    c.jobs_are_told.ensures.exact k s asked w (check_text w.source.declarations) status.Done gave known is
    (ap lists_cuts sought) p (check sought)

pub returns-clause-flat : goal.returns-clause-flat
returns-clause-flat c = λ k s asked w gave known is sought p.
    well_or_stopped k asked w s (c.jobs_are_told.ensures.told k s asked w gave known is p) verb.Flat sought _ (λ text h. h)

pub returns-clause-fragment : goal.returns-clause-fragment
returns-clause-fragment c = λ k s asked w gave known is sought p.
    well_or_stopped k asked w s (c.jobs_are_told.ensures.told k s asked w gave known is p) verb.Fragment sought _
    (λ text h. h)

pub returns-clause-equations : goal.returns-clause-equations
returns-clause-equations c = λ k s asked w wanted gave known is sought p are.
    table_or_stopped k asked w s (c.jobs_are_told.ensures.told k s asked w gave known is p) sought wanted are

pub returns-clause-replay : goal.returns-clause-replay
returns-clause-replay c = λ k s asked w gave known is sought p.
    run_or_stopped k asked w s sought (c.jobs_are_told.ensures.told k s asked w gave known is p)

pub returns-clause-explain : goal.returns-clause-explain
returns-clause-explain c = λ k s asked w gave known is sought p.
    reason_or_stopped k asked w s sought (c.jobs_are_told.ensures.told k s asked w gave known is p)

pub returns-clause-too_many_cuts_are_told : goal.returns-clause-too_many_cuts_are_told
returns-clause-too_many_cuts_are_told c = λ k s asked w gave known is lists p has sets are many.
    nodes_or_stopped asked w lists has sets are many k s (c.jobs_are_told.ensures.told k s asked w gave known is p)
