use Rattle.job_laws.proofs.Enough.{told_with}
use Rattle.job_stages.specs.declared.status.Status.TheVariants as status
use Rattle.job_laws.proofs.told.cuts_are_told.Goals as goal

pub returns-clause-conflicts_are_told : goal.returns-clause-conflicts_are_told
returns-clause-conflicts_are_told c = λ k s asked w gave known is lists p met enough.
    told_with k asked w s status.Fault _
    (λ text t. c.enough_nodes_suffice.ensures.conflict_with_enough asked w text s t lists enough met)
    (c.jobs_are_told.ensures.told k s asked w gave known is p)

pub returns-clause-cuts_are_told : goal.returns-clause-cuts_are_told
returns-clause-cuts_are_told c = λ k s asked w gave known is lists p free enough.
    told_with k asked w s status.Done _
    (λ text t. c.enough_nodes_suffice.ensures.listing_with_enough asked w text s t lists enough free)
    (c.jobs_are_told.ensures.told k s asked w gave known is p)
