use Rattle.job_laws.proofs.Answering.{refused_or_stopped}
use Rattle.job_laws.proofs.told.refusals_are_told.Goals as goal

pub returns : goal.returns
returns c = λ k s asked r gave known is p.
    refused_or_stopped k asked (c.one_job.ensures k.words) is (c.one_passing.ensures k.files known asked) r p s gave
