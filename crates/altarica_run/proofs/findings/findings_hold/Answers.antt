use Rattle.altarica_run.proofs.FindingLemmas.{check_of, explanation_of}
use Rattle.altarica_run.proofs.findings.findings_hold.Goals as goal

pub returns-clause-checks_are_whole : goal.returns-clause-checks_are_whole
returns-clause-checks_are_whole c = λ k asked gave is checks. check_of k asked (c.one_job.ensures k.words) is gave checks

pub returns-clause-explanations_hold : goal.returns-clause-explanations_hold
returns-clause-explanations_hold c = λ k asked gave is explains. explanation_of k asked (c.one_job.ensures k.words) is gave explains
